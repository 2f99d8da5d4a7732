-- What `Admitted` tells: a call goes on exactly if the size, the slope and the lengths are right, and else one number refuses it.
-- Assumes nothing.
use Rattle.std.specs.Prelude.{◌≡◌, refl, ℕ, ◌≤◌}
use Rattle.std.proofs.Common.{arith}
use Rattle.residue.specs.Size.{Size, Allowed}
use Rattle.code.specs.Slope.{Slope}
use Rattle.code.specs.Tile.{tile_length}
use Rattle.code.specs.Kind.{Takes, taken_slope}
use Rattle.code.specs.declared.Kind.{Kind}
use Rattle.size.specs.Answer as size
use Rattle.size.specs.Told.{judged_well, judged_no, judged_alike}
use Rattle.size.specs.Once.{judged_told_once}
use Rattle.walk.specs.Sums.{Shape}
use Rattle.promise.specs.Calls.{Admitted, judged, no_length, admitted}

-- where size, slope and lengths are right a call goes on ..
pub admits : {k : Kind} {p l : ℕ} {Lengths : Type 0} → Size p → Takes k p l → Lengths → Admitted k p l Lengths size.well
admits s w h = admitted (size.taken s w) h

-- .. and where it goes on they are
pub admitted_well : {k : Kind} {p l : ℕ} {Lengths : Type 0} → Admitted k p l Lengths size.well → Size p × Takes k p l × Lengths
admitted_well (admitted j h) = let t = judged_well j in (t.0, t.1, h)

-- where it is refused they are not
pub admitted_no : {k : Kind} {p l n : ℕ} {Lengths : Type 0} → Admitted k p l Lengths (size.refused n) → Size p × Takes k p l × Lengths → ⊥
admitted_no (judged j) t = judged_no j (t.0, t.1)
admitted_no (no_length j f) t = f t.2

-- of one kind, size and slope and given lengths one thing is said
pub admitted_once : (k : Kind) (p l : ℕ) (Lengths : Type 0) (a b : size.Said) → Admitted k p l Lengths a → Admitted k p l Lengths b → a ≡ b
admitted_once k p l Lengths a b (judged j) (judged i) = judged_told_once k p l a b j i
admitted_once k p l Lengths a b (judged j) (no_length i f) = absurd (judged_no j (judged_well i))
admitted_once k p l Lengths a b (judged j) (admitted i h) = absurd (judged_no j (judged_well i))
admitted_once k p l Lengths a b (no_length i f) (judged j) = absurd (judged_no j (judged_well i))
admitted_once k p l Lengths a b (no_length j f) (no_length i g) = refl
admitted_once k p l Lengths a b (no_length j f) (admitted i h) = absurd (f h)
admitted_once k p l Lengths a b (admitted i h) (judged j) = absurd (judged_no j (judged_well i))
admitted_once k p l Lengths a b (admitted i h) (no_length j f) = absurd (f h)
admitted_once k p l Lengths a b (admitted j h) (admitted i g) = refl

-- what goes on is judged well, and goes on where fewer lengths are asked for; what is refused is refused where more are
pub admitted_judged : {k : Kind} {p l : ℕ} {Lengths : Type 0} → Admitted k p l Lengths size.well → size.Judged k p l size.well
admitted_judged (admitted j h) = j

pub admitted_some : {k : Kind} {p l : ℕ} {Lengths Some : Type 0} → (Lengths → Some) → Admitted k p l Lengths size.well → Admitted k p l Some size.well
admitted_some f (admitted j h) = admitted j (f h)

pub admitted_more : {k : Kind} {p l n : ℕ} {Lengths More : Type 0} → (More → Lengths) → Admitted k p l Lengths (size.refused n) → Admitted k p l More (size.refused n)
admitted_more f (judged j) = judged j
admitted_more f (no_length j d) = no_length j (λ m. d (f m))

-- the slope that was admitted
pub slope_of_lem : {k : Kind} {p l : ℕ} {Lengths : Type 0} → Admitted k p l Lengths size.well → Slope p l
slope_of_lem {k} {p} {l} a = let w = admitted_well a in taken_slope k p l w.0 w.1

-- a size and a slope that were admitted make a lattice
pub lattice_of : {k : Kind} {p l : ℕ} {Lengths : Type 0} → Admitted k p l Lengths size.well → record { slope : Slope p l; high : p ≤ 257 }
lattice_of a = record { slope = slope_of_lem a; high = (admitted_well a).0.high }

-- .. and with a tile of that size the shape that is walked for its sums
pub shape_of : {k : Kind} {p l n : ℕ} {Lengths : Type 0} → Admitted k p l Lengths size.well → n ≡ tile_length p → Shape p l n
shape_of a size =
    let w = admitted_well a in
    let s = slope_of_lem a in
    record { prime = w.0.prime; high = w.0.high; positive = omega (arith, s.low); slope = omega (arith, s.high); size = size }

-- a call that is not admitted is refused with 1, 2 or 3
pub admitted_low : {k : Kind} {p l n : ℕ} {Lengths : Type 0} → Admitted k p l Lengths (size.refused n) → n ≤ 3
admitted_low (judged (size.no_size f)) = omega arith
admitted_low (judged (size.no_slope s f)) = omega arith
admitted_low (no_length j f) = omega arith

-- WHERE A SLOPE IS ALLOWED every kind is admitted alike
pub admitted_alike : {j k : Kind} {p l : ℕ} {Lengths : Type 0} {s : size.Said} → Allowed p l → Admitted j p l Lengths s → Admitted k p l Lengths s
admitted_alike a (judged h) = judged (judged_alike a h)
admitted_alike a (no_length h f) = no_length (judged_alike a h) f
admitted_alike a (admitted h f) = admitted (judged_alike a h) f
