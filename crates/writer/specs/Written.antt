-- How a writing ends: the text that was laid in, and the check columns that were settled, make an outcome that the call's relation allows.
-- Assumes nothing.
use Rattle.std.specs.Prelude.{◌≡◌, List, ℕ, ◌-◌, ◌<◌, length}
use Rattle.std.proofs.Common.{sym, ◌∙◌, arith}
use Rattle.code.specs.Tile.{cell, sum, text_length, Writes, Fills}
use Rattle.code.specs.Place.{text_is}
use Rattle.code.specs.declared.Kind.{Kind}
use Rattle.code.specs.declared.Line.TheVariants.{Column}
use Rattle.size.specs.Answer as size
use Rattle.cells.specs.Text.{Laid}
use Rattle.chain.specs.Settled.{LinesSettled, settled_fill}
use Rattle.promise.specs.Answer.{done}
use Rattle.promise.specs.Calls.{Admitted, BothLengths, WriteTold, writes}
use Rattle.promise.specs.Admit.{admitted_well}

-- a text that is laid in, and the check columns filled
pub laid_writes : (p l : ℕ) (text x y z : List ℕ) → 3 < p → length text ≡ text_length p → Laid p text x y
    → Fills p l (Column (p - 3)) (Column (p - 2)) y z → Writes p l text z
laid_writes p l text x y z large e laid f = record {
  size = f.size;
  good = f.good;
  has = text_is p z text large e (λ i j hi hj. sym (laid.has i j hi hj) ∙ f.agrees i j hi (omega arith) (omega arith) (omega arith));
}

-- the text is laid in, and the check columns settle the sums
pub ends_written : (k : Kind) (p l : ℕ) (A B : ℕ → ℕ) (text x y z : List ℕ) → Admitted k p l (BothLengths p x text) size.well → Laid p text x y
    → ((t : ℕ) → t < p → A t ≡ sum p 1 (cell p y) t) → ((t : ℕ) → t < p → B t ≡ sum p l (cell p y) t)
    → LinesSettled p l (Column (p - 3)) (Column (p - 2)) A B y z → WriteTold k p l text x done z
ends_written k p l A B text x y z a laid ha hb settled =
    let h = admitted_well a in
    writes a (laid_writes p l text x y z (omega (arith, h.0.low)) h.2.1 laid (settled_fill p l (Column (p - 3)) (Column (p - 2)) A B y z (laid.size ∙ h.2.0) ha hb settled))
