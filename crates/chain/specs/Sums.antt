-- What the changes in two lines do to the sums of a tile, which stand together with its size and slope. Assumes nothing.
use Rattle.std.specs.Prelude.{List, ℕ, Result}
use Rattle.code.specs.Held.{held}
use Rattle.code.specs.declared.Line.{Line}
use Rattle.size.specs.declared.Unclear.{Unclear}
use Rattle.chain.specs.declared.sums.Sums.{Sums}
use Rattle.chain.specs.Solve as law

-- whether one change in the lines a and b settles them; where it does, the arrays x and y hold it
abbrev pub Solved : Sums → Line → Line → List ℕ → List ℕ → Result Unit Unclear → Type 0
Solved s a b x y said = law.Solved s.lattice.p s.lattice.l a b (held s.a.now) (held s.b.now) (held x) (held y) said

-- the changes that the arrays x and y hold, in the lines a and b, settle them
abbrev pub SettledBy : Sums → Line → Line → List ℕ → List ℕ → Type 0
SettledBy s a b x y = law.SettledBy s.lattice.p s.lattice.l a b (held s.a.now) (held s.b.now) (held x) (held y)

-- some chain of hops between column c and the line b closes over them
abbrev pub Closes : Sums → ℕ → Line → Type 0
Closes s c b = law.Closes s.lattice.p s.lattice.l c b (held s.a.now) (held s.b.now)
