-- The measure of each of {to_column, to_line} is the number of unfilled symbols.
use Rattle.chain.proofs.pair.+to_column_to_line.Given as goal

abbrev pub decreases-to_column : goal.decreases-to_column
decreases-to_column l = l.unfilled

abbrev pub decreases-to_line : goal.decreases-to_line
decreases-to_line l = l.unfilled
