-- Wrong programs, each broken by a theorem: no such program meets its contract. Assumes nothing.
use Rattle.std.specs.Prelude.{◌≡◌, List, ◌++◌, ℕ, get_or, take}
use Rattle.std.proofs.Common.{sym, ap, ◌∙◌, arith}
use Rattle.promise.specs.Answer.{column, refused}
use Rattle.lettering.specs.Line.{ascii}
use Rattle.page.specs.Page.{Puts}
use Rattle.picture.specs.declared.Form.TheVariants.{Squares, Signs}
use Rattle.picture.specs.Picture.{tile_shown}
use Rattle.picture.specs.Worked.{square_0, sign_1}

module _ {page new : List ℕ} {to : ℕ} where
  -- a page on which a text is put first of all has its signs: the k-th of them
  byte : {text right wrong : List ℕ} → Puts page 0 text to new → text ≡ right → take to new ≡ wrong → (k : ℕ) → get_or right k 0 ≡ get_or wrong k 0
  byte put is said k = ap (λ (x : List ℕ). get_or x k 0) (sym is ∙ sym put.is ∙ said)

  -- a drawing that shows a row's bar for a column
  pub level_for_upright : Puts page 0 (tile_shown Squares 0 0 2 5 3 (column 2)) to new
      → take to new
      ≡ ascii "<text class=\"o\" x=\"88\" y=\"34\">0</text>\n"
      ++ ascii "<g transform=\"translate(96 16)\"><title>2 5 3 column 2</title><path class=\"h\" d=\"M0 0h28v28h-28z\"/><path class=\"b\" d=\"M0 16h28v3h-28z\"/></g>\n"
      → ⊥
  level_for_upright put said = let z = byte put square_0 said 157 in omega arith

  -- signs that show a cross for what is doubtful
  pub cross_for_doubtful : Puts page 0 (tile_shown Signs 1 39 2 5 3 (refused 8)) to new → take to new ≡ ascii " x" → ⊥
  cross_for_doubtful put said = let z = byte put sign_1 said 1 in omega arith
