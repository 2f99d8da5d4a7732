-- WHAT THE CHECKS BUY (SPEC 4.6), of what is written: two texts stay apart when two lines are lost, and some do not when three are. Assumes
-- nothing.
use Rattle.std.specs.Prelude.{◌≡◌, refl, ◌≢◌, List, ℕ, length}
use Rattle.std.proofs.Common.{◌∙◌, arith}
use Rattle.residue.specs.Power.{ReachesAll}
use Rattle.code.specs.Slope.{Slope}
use Rattle.code.specs.Tile.{tile_length, Good, text_of, EqualOutsideBoth, Bytes}
use Rattle.code.specs.Place.{text_length_lem}
use Rattle.code.specs.Fillings.{Sure}
use Rattle.code.specs.Margin.{DifferOutside, EqualOutsideThree, Another}
use Rattle.code.proofs.Lost.{sure_lost, crossed_lost, three_lost, texts_apart, apart_texts}
use Rattle.code.specs.declared.Kind.{Kind}
use Rattle.code.specs.declared.Line.{Line}
use Rattle.code.specs.declared.Line.TheVariants.{Row, Column}
use Rattle.promise.specs.Answer.{done}
use Rattle.promise.specs.Calls.{WriteTold, Has}
use Rattle.promise.specs.Admit.{admits, admitted_well, slope_of_lem}

-- WHAT THE CHECKS BUY: two different texts that were written at one size and slope give tiles that differ in a cell outside any two lines;
-- where the powers miss a remainder, outside any two rows and any two columns
pub write_outside : {j k : Kind} {p l : ℕ} {text text' lent lent' x y : List ℕ} (a b : Line) → Sure p l a b
    → WriteTold j p l text lent done x → WriteTold k p l text' lent' done y → text ≢ text' → DifferOutside p a b x y
write_outside {p = p} {l} {text} {text'} {x = x} {y} a b sure (WriteTold.writes h w) (WriteTold.writes g v) d =
    sure_lost p l a b (slope_of_lem h) sure x y (texts_apart p l text text' x y w v d)

-- SPEC 4.6: another text than the one that was written as x, and the tile that it is written as, which agrees with x as is asked
pub record OtherText (k : Kind) (p l : ℕ) (text lent x : List ℕ) (Agrees : List ℕ → Type 0) : Type 0 where
  pub other : List ℕ
  pub tile : List ℕ
  pub told : WriteTold k p l other lent done tile
  pub apart : text ≢ other
  pub agrees : Agrees tile
  pub bytes : Bytes x → Bytes tile

other_text : {k : Kind} {p l : ℕ} {text lent x : List ℕ} {Agrees : List ℕ → Type 0} → WriteTold k p l text lent done x
    → (Slope p l → length x ≡ tile_length p → Good p l x → Another p l x Agrees) → OtherText k p l text lent x Agrees
other_text {p = p} {l} {x = x} (WriteTold.writes h w) another =
    let a = admitted_well h in
    let t = another (slope_of_lem h) w.size w.good in
    record {
      other = text_of p t.tile;
      tile = t.tile;
      told = WriteTold.writes (admits a.0 a.1 (a.2.0, text_length_lem p t.tile)) (record { size = t.two.size_other; good = t.two.good_other; has = refl });
      apart = λ e. apart_texts p l x t.tile (slope_of_lem h) t.two (w.has ∙ e);
      agrees = t.agrees;
      bytes = t.bytes;
    }

-- AND NO MORE: whatever was written, and whichever three lines are lost, there is another text whose tile agrees with it outside them ..
pub write_three : {k : Kind} {p l : ℕ} {text lent x : List ℕ} (a b c : Line) → Has p a → Has p b → Has p c → a ≢ b → a ≢ c → b ≢ c
    → WriteTold k p l text lent done x → OtherText k p l text lent x (EqualOutsideThree p a b c x)
write_three {p = p} {l} {x = x} a b c ha hb hc ab ac bc told =
    other_text told (λ S e g. three_lost p l x S e g a b c (omega arith) (omega arith) (omega arith) ab ac bc)

-- .. and where the powers miss a remainder, outside whichever row and column
pub write_crossed : {k : Kind} {p l : ℕ} {text lent x : List ℕ} (s t : ℕ) → Has p (Row s) → Has p (Column t) → (ReachesAll p l → ⊥)
    → WriteTold k p l text lent done x → OtherText k p l text lent x (EqualOutsideBoth p (Row s) (Column t) x)
write_crossed {p = p} {l} {x = x} s t hs ht miss told = other_text told (λ S e g. crossed_lost p l s t x S miss (omega arith) (omega arith) e g)
