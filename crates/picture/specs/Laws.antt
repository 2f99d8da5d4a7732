-- Laws of a line of a listing that is shown, which has an LF to be left out, and of the tally. Assumes nothing.
use Rattle.std.specs.Prelude.{◌≡◌, Bool, true, false, cond, List, ℕ, ◌+◌, ◌≤◌, ◌<◌, length, eqb}
use Rattle.std.proofs.Common.{◌∙◌, arith, length-append}
use Rattle.promise.specs.Answer.{Said, done, clean, cell, column, row, refused}
use Rattle.lettering.specs.Line.{tile_line, stopped_line}
use Rattle.page.specs.Page.{PutOn}
use Rattle.page.specs.Then.{at_most}
use Rattle.page.specs.declared.Page.{Page}
use Rattle.picture.specs.declared.tally.Tally.{Tally}
use Rattle.picture.specs.Tally.{Below, no_tiles, counted}

-- a line that is put takes 112 bytes at most
pub line_put : {page new : Page} {words line text : List ℕ} → words ≡ line → length words ≤ 112 → line ≡ text → PutOn (length words) page words new
    → PutOn 112 page text new
line_put is long says put = rw (is ∙ says) at (at_most 112 long put)

-- no line is empty
pub tile_some : (number p l : ℕ) (said : Said) → 0 < length (tile_line number p l said)
unfolding tile_line
tile_some number p l said = simp length-append (omega arith)

pub stopped_some : (n offset : ℕ) → 0 < length (stopped_line n offset)
unfolding stopped_line
stopped_some n offset = simp length-append (omega arith)

-- ---- the tally

-- before the first tile each count is below every number but 0
pub below_none : {n : ℕ} → 0 < n → Below n no_tiles
below_none h = record { tiles = omega arith; clean = omega arith; cells = omega arith; columns = omega arith; rows = omega arith; filled = omega arith; refused = omega arith; doubtful = omega arith }

-- with one more tile each count grows by one at most
one : (b : Bool) → (cond b 0 1 ≤ 1) × (cond b 1 0 ≤ 1)
one true = (omega arith, omega arith)
one false = (omega arith, omega arith)

pub below_counted : {n : ℕ} {t : Tally} (said : Said) → Below n t → Below (n + 1) (counted t said)
unfolding counted
below_counted done h = record { tiles = omega arith; clean = omega arith; cells = omega arith; columns = omega arith; rows = omega arith; filled = omega arith; refused = omega arith; doubtful = omega arith }
below_counted clean h = record { tiles = omega arith; clean = omega arith; cells = omega arith; columns = omega arith; rows = omega arith; filled = omega arith; refused = omega arith; doubtful = omega arith }
below_counted (cell r c) h = record { tiles = omega arith; clean = omega arith; cells = omega arith; columns = omega arith; rows = omega arith; filled = omega arith; refused = omega arith; doubtful = omega arith }
below_counted (column c) h = record { tiles = omega arith; clean = omega arith; cells = omega arith; columns = omega arith; rows = omega arith; filled = omega arith; refused = omega arith; doubtful = omega arith }
below_counted (row r) h = record { tiles = omega arith; clean = omega arith; cells = omega arith; columns = omega arith; rows = omega arith; filled = omega arith; refused = omega arith; doubtful = omega arith }
below_counted (refused n) h =
    let few = one (eqb n 8) in
    record { tiles = omega arith; clean = omega arith; cells = omega arith; columns = omega arith; rows = omega arith; filled = omega arith; refused = omega arith; doubtful = omega arith }
