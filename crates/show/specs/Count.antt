-- What one more tile does to the counts. Assumes nothing.
use Rattle.std.specs.Prelude.{◌≡◌, refl, ℕ, ◌+◌, ◌≤◌}
use Rattle.std.proofs.Common.{arith}
use Rattle.promise.specs.Answer.{Said, done, clean, cell, column, row, refused}
use Rattle.picture.specs.Tally.{counted, Below}
use Rattle.picture.specs.declared.tally.Tally.{Tally}

-- it is one more of all
pub tiles_counted : (t : Tally) (said : Said) → (counted t said).tiles ≡ t.tiles + 1
unfolding counted
tiles_counted t done = refl
tiles_counted t clean = refl
tiles_counted t (cell r c) = refl
tiles_counted t (column c) = refl
tiles_counted t (row r) = refl
tiles_counted t (refused n) = refl

pub below_more : {m n : ℕ} {t : Tally} → m ≤ n → Below m t → Below n t
below_more h b = record {
  tiles = omega (arith, b.tiles);
  clean = omega (arith, b.clean);
  cells = omega (arith, b.cells);
  columns = omega (arith, b.columns);
  rows = omega (arith, b.rows);
  filled = omega (arith, b.filled);
  refused = omega (arith, b.refused);
  doubtful = omega (arith, b.doubtful);
}
