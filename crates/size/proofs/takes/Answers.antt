-- `size::takes` meets its contract: a new tile's slope is told by its powers, an old one's by its bounds.
use Rattle.size.proofs.takes.Goals as goal

pub returns-in-New : goal.returns-in-New
returns-in-New c =
    λ s. rw c.in-New.is (c.allows.ensures s)

pub returns-in-Old : goal.returns-in-Old
returns-in-Old c =
    λ s. rw c.in-Old.is c.between.ensures
