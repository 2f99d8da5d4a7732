-- How a tile with a flag is listed (SPEC 8.1): as filled where its flagged lines have a filling, and else as refused with 5; and what lost
-- nothing but flagged lines, as filled. Assumes nothing.
use Rattle.std.specs.Prelude.{◌≡◌, Option, List, ℕ, take, drop}
use Rattle.std.proofs.Common.{sym, subst, arith, length-drop, length-take-le}
use Rattle.code.specs.Tile.{tile_length, Good, EqualOutsideBoth, Fills}
use Rattle.code.specs.Count.{None}
use Rattle.code.specs.Kind.{Takes}
use Rattle.code.specs.declared.Kind.{Kind}
use Rattle.code.specs.declared.Kind.TheVariants.{New}
use Rattle.code.specs.declared.Line.{Line}
use Rattle.size.specs.Answer as size
use Rattle.promise.specs.Answer.{Said, done, refused}
use Rattle.promise.specs.Admit.{admits}
use Rattle.promise.specs.Calls.{Admitted, TileLength, Has}
use Rattle.restorer.specs.Restore.{RestoreTold}
use Rattle.restorer.specs.Promise as restorer
use Rattle.restorer.specs.Promise.{Lines, both, lone_first, lone_second, Settled, flagged_never_doubtful, lost_restored}
use Rattle.header.specs.Header.{kind_of, Carried}
use Rattle.header.specs.declared.Mark.{Mark}
use Rattle.reel.specs.Answer.{tile}
use Rattle.reel.specs.Calls.{NextTold, headed, stands}
use Rattle.reel.specs.Once.{next_told_once, tile_once}
use Rattle.reel.specs.Told.{tile_taken, tile_within, carried_line}
use Rattle.reel.specs.declared.Tile.{Tile}
use Rattle.lettering.specs.Line.{tile_line}
use Rattle.listing.specs.Listing.{RestoreSays, TileListed, lists}

-- the lines that a record's flags name are those of a new tile, which has them
lines_carried : (m : Mark) (p : ℕ) {first second : Option Line} {a b : Line} → Lines first second a b → Carried m p first → Carried m p second
    → (kind_of m ≡ New) × Has p a × Has p b
lines_carried m p (both {a} {b}) c d = ((carried_line m p a c).0, (carried_line m p a c).1, (carried_line m p b d).1)
lines_carried m p (lone_first {a}) c d = ((carried_line m p a c).0, (carried_line m p a c).1, (carried_line m p a c).1)
lines_carried m p (lone_second {b}) c d = ((carried_line m p b d).0, (carried_line m p b d).1, (carried_line m p b d).1)

tile_lines : {reel : List ℕ} {at : ℕ} {t : Tile} {a b : Line} → NextTold reel at (tile t) → Lines t.first t.second a b
    → (t.kind ≡ New) × Has t.p a × Has t.p b
tile_lines (headed {h} there (stands j c w)) lines = lines_carried h.mark h.p lines c.0 c.1

module _ {reel : List ℕ} {at : ℕ} {t : Tile} {a b : Line} (told : NextTold reel at (tile t)) (lines : Lines t.first t.second a b) where
  -- its bytes, and that they are taken as those of a new tile
  abbrev bytes : List ℕ
  bytes = take (tile_length t.p) (drop t.at reel)

  long : TileLength t.p bytes
  long = length-take-le (tile_length t.p) (drop t.at reel) (omega (arith, tile_within told, length-drop t.at reel))

  taken : Admitted New t.p t.l (TileLength t.p bytes) size.well
  taken =
      let well = tile_taken told in
      admits well.0 (subst (λ (k : Kind). Takes k t.p t.l) (tile_lines told lines).0 well.1) long

  -- WHAT LOST NOTHING BUT FLAGGED LINES IS LISTED AS FILLED, whatever stands on them now
  pub lost_listed : (y : List ℕ) → TileLength t.p y → Good t.p t.l y → EqualOutsideBoth t.p a b bytes y
      → TileListed reel at (tile_line t.number t.p t.l done)
  lost_listed y size good agrees =
      let has = tile_lines told lines in
      let restored = lost_restored t.p t.l bytes lines taken has.1 has.2 y size good agrees in
      lists told (record { new = y; told = subst (λ (k : Kind). RestoreTold k t.p t.l bytes t.first t.second done y) (sym has.0) restored })

  -- A TILE WITH A FLAG IS LISTED AS FILLED where there is a filling, and as refused 5 where there is none
  pub data FlagListed : List ℕ → Type 0 where
    filled : {y : List ℕ} → Fills t.p t.l a b bytes y → FlagListed (tile_line t.number t.p t.l done)
    unfilled : None (Fills t.p t.l a b bytes) → FlagListed (tile_line t.number t.p t.l (refused 5))

  flag_listed : {said : Said} {new : List ℕ} → Settled t.p t.l a b bytes said new → FlagListed (tile_line t.number t.p t.l said)
  flag_listed (restorer.filled f) = filled f
  flag_listed (restorer.unfilled n) = unfilled n

  pub flagged_listed : {line : List ℕ} → TileListed reel at line → FlagListed line
  flagged_listed (lists {t = u} {said} told' says) =
      let has = tile_lines told lines in
      let same = tile_once (next_told_once reel at (tile u) (tile t) told' told) in
      let here = subst (λ (x : Tile). RestoreSays x (take (tile_length x.p) (drop x.at reel)) said) same says in
      let new_kind = subst (λ (k : Kind). RestoreTold k t.p t.l bytes t.first t.second said here.new) has.0 here.told in
      subst (λ (x : Tile). FlagListed (tile_line x.number x.p x.l said)) (sym same)
      (flag_listed (flagged_never_doubtful t.p t.l bytes lines taken has.1 has.2 new_kind))
