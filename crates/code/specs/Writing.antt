-- WRITING: for every text exactly one good tile has it. It is the filling of the two check columns. Assumes nothing.
use Rattle.std.specs.Prelude.{◌≡◌, List, ℕ, ◌-◌, ◌<◌, length}
use Rattle.std.proofs.Common.{sym, ap, ◌∙◌, inl, arith}
use Rattle.code.specs.Slope.{Slope}
use Rattle.code.specs.Tile.{text_length, Writes, Bytes}
use Rattle.code.specs.Place.{tile_of, tile_in, tile_bytes_lem, text_byte, text_at, text_is}
use Rattle.code.specs.Distance.{equal_tiles}
use Rattle.code.specs.Filling.{Filled, parallel_filled}
use Rattle.code.specs.declared.Line.TheVariants.{Column}

-- two good tiles with one text are the same
pub written_once : (p l : ℕ) (text x y : List ℕ) → Slope p l → Writes p l text x → Writes p l text y → x ≡ y
written_once p l text x y S f g =
    equal_tiles p l (Column (p - 3)) (Column (p - 2)) x y S (inl tt) f.size g.size f.good g.good (λ i j hi hj d e.
    sym (text_at p x i j hi (omega arith)) ∙ ap (λ (t : List ℕ). text_byte p t i j) (f.has ∙ sym g.has) ∙ text_at p y i j hi (omega arith))

-- for every text there is one, of bytes where the text is: put the text into its columns, and fill the others, whatever they hold
pub written : (p l : ℕ) (text : List ℕ) → Slope p l → length text ≡ text_length p → (tile : List ℕ) × Writes p l text tile × (Bytes text → Bytes tile)
written p l text S e = (
  t.0,
  record {
    size = t.1.size;
    good = t.1.good;
    has = text_is p t.0 text large e (λ i j hi hj.
        sym (tile_in p (text_byte p text) i j hi (omega arith)) ∙ t.1.agrees i j hi (omega arith) (omega arith) (omega arith));
  },
  λ h. t.2 (tile_bytes_lem p (text_byte p text) (λ i j. h _)),
)
  where
    large : 3 < p
    large = omega (arith, S.low, S.high)

    t : Filled p l (Column (p - 3)) (Column (p - 2)) (tile_of p (text_byte p text))
    t = parallel_filled p l (Column (p - 3)) (Column (p - 2)) (tile_of p (text_byte p text)) S tt (omega (arith, large)) (omega (arith, large)) (omega (arith, large))
