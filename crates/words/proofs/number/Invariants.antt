-- `words::number` meets its contract. The loop's invariant: the signs before i are digits, and n is what they come to, or both are above
-- the largest number.
use Rattle.words.specs.Digits.{Held}
use Rattle.words.proofs.number.Given as goal

abbrev pub invariant-loop-sign : goal.invariant-loop-sign
invariant-loop-sign l = Held l.word l.n l.sign-index
