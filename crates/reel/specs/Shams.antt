-- Wrong programs, each broken by a theorem: no such program meets its contract. Assumes nothing.
use Rattle.std.specs.Prelude.{◌≡◌, refl, List, [], ◌∷◌, ℕ, length, drop, Option, None}
use Rattle.std.proofs.Common.{sym, ap, ◌∙◌, subst, arith}
use Rattle.std.specs.Borrow.{Bor}
use Rattle.code.specs.declared.Line.{Line}
use Rattle.code.specs.declared.Kind.{Kind}
use Rattle.code.specs.declared.Kind.TheVariants.{New, Old}
use Rattle.header.specs.Header.{Marked}
use Rattle.header.specs.declared.Mark.{Mark}
use Rattle.header.specs.declared.Mark.TheVariants as mark
use Rattle.reel.specs.Answer.{Said, tile, end, refused, NoTile}
use Rattle.reel.specs.Calls.{NextTold, headed, AfterTold, BytesTold, RestTold}
use Rattle.reel.specs.Once.{next_told_once, tile_once, after_once}
use Rattle.reel.specs.Promise.{tile_stands, stays}
use Rattle.reel.specs.Told.{rest_drops}
use Rattle.reel.specs.Reading.{Begins, MovesTo, SecondTold}
use Rattle.reel.specs.Worked.{flagged_tile, plain_tile, whole_case, first, second, third, old_case, old_first, new_case, new_first, flag_case, row_0, column_0, crossed, no_row_4}
use Rattle.reel.specs.declared.Tile.{Tile}
use Rattle.reel.specs.declared.reader.Reader.{Reader}

-- ---- of `next`

-- a reader that always says the end
pub says_end : NextTold whole_case 0 end → ⊥
says_end told = subst NoTile (next_told_once whole_case 0 end (tile (plain_tile New 7 5 2 10)) told first) tt

-- a tile has one of the three marks
marked_no : {reel : List ℕ} {at : ℕ} {t : Tile} → NextTold reel at (tile t) → ((m : Mark) → Marked m reel at → ⊥) → ⊥
marked_no (headed {h} there told) none = none h.mark there.marked

-- one that takes any mark: the first byte of the whole case's mark is changed
abbrev wrong_mark : List ℕ
wrong_mark = 0xD4 ∷ drop 1 whole_case

pub takes_any_mark : (t : Tile) → NextTold wrong_mark 0 (tile t) → ⊥
takes_any_mark t told = marked_no told (λ m. wrong m)
  where
    wrong : (m : Mark) → Marked m wrong_mark 0 → ⊥
    wrong mark.Plain e = omega (arith, e.0)
    wrong mark.Flagged e = omega (arith, e.0)
    wrong mark.Old e = omega (arith, e.0)

-- one that looks at the mark's first byte alone, and so takes D5 D5 for the mark of a new record
abbrev half_mark : List ℕ
half_mark = 0xD5 ∷ 0xD5 ∷ drop 2 whole_case

pub takes_half_mark : (t : Tile) → NextTold half_mark 0 (tile t) → ⊥
takes_half_mark t told = marked_no told (λ m. wrong m)
  where
    wrong : (m : Mark) → Marked m half_mark 0 → ⊥
    wrong mark.Plain e = omega (arith, e.1)
    wrong mark.Flagged e = omega (arith, e.1)
    wrong mark.Old e = omega (arith, e.0)

-- one that takes an old mark for a new one, and answers the kind New
pub old_as_new : NextTold old_case 0 (tile (plain_tile New 9 7 2 10)) → ⊥
old_as_new told =
    let e = next_told_once old_case 0 (tile (plain_tile New 9 7 2 10)) (tile (plain_tile Old 9 7 2 10)) told old_first in
    let kinds : ◌≡◌ {A = Kind} New Old = ap (λ (x : Tile). x.kind) (tile_once e) in let z : ◌≡◌ {A = ℕ} 0 1 = cc in omega arith

-- one that judges an old record's slope as a new one's, and so refuses 2 at 7
pub judges_as_new : (n from : ℕ) → NextTold old_case 0 (refused n from) → ⊥
judges_as_new n from told = subst NoTile (next_told_once old_case 0 (refused n from) (tile (plain_tile Old 9 7 2 10)) told old_first) tt

-- one that knows the new mark alone, and refuses an old one with 6
pub knows_new_alone : NextTold old_case 0 (refused 6 0) → ⊥
knows_new_alone told = judges_as_new 6 0 told

-- one that judges every record as an old one, and so takes a new one with the slope 2 at 7
pub judges_as_old : (t : Tile) → NextTold new_case 0 (tile t) → ⊥
judges_as_old t told = subst NoTile (next_told_once new_case 0 (refused 2 0) (tile t) new_first told) tt

-- one that skips a byte: where the tile's bytes begin
pub skips_byte : NextTold whole_case 0 (tile (plain_tile New 7 5 2 11)) → ⊥
skips_byte told =
    let e = next_told_once whole_case 0 (tile (plain_tile New 7 5 2 10)) (tile (plain_tile New 7 5 2 11)) first told in
    omega (arith, ap (λ (x : Tile). x.at) (tile_once e))

-- one whose refusal moves on, to the place behind the faulty byte
pub refusal_moves_on : NextTold whole_case 52 (refused 7 53) → ⊥
refusal_moves_on told = let e = next_told_once whole_case 52 (refused 7 52) (refused 7 53) third told in let z : ◌≡◌ {A = ℕ} 52 53 = cc in omega arith

-- ---- of `next` again, with flags

-- one that knows the two marks without flags alone, and refuses a flagged record with 6
pub knows_no_flags : NextTold flag_case 0 (refused 6 0) → ⊥
knows_no_flags told = subst NoTile (next_told_once flag_case 0 (refused 6 0) (tile (flagged_tile 9 5 2 row_0 column_0 14)) told crossed) tt

-- one that takes a header of ten bytes for the flagged record, whatever else it says
pub ten_bytes : (t : Tile) → t.at ≡ 10 → NextTold flag_case 0 (tile t) → ⊥
ten_bytes t e told =
    let same = tile_once (next_told_once flag_case 0 (tile t) (tile (flagged_tile 9 5 2 row_0 column_0 14)) told crossed) in
    omega (arith, e, ap (λ (x : Tile). x.at) same)

-- one that passes over the flags, and tells none
pub tells_none : NextTold flag_case 0 (tile (flagged_tile 9 5 2 None None 14)) → ⊥
tells_none told =
    let same = tile_once (next_told_once flag_case 0 (tile (flagged_tile 9 5 2 None None 14)) (tile (flagged_tile 9 5 2 row_0 column_0 14)) told crossed) in
    let flags : ◌≡◌ {A = Option Line} None row_0 = ap (λ (x : Tile). x.first) same in let z : ◌≡◌ {A = ℕ} 0 1 = cc in omega arith

-- one that tells the second flag first
pub tells_exchanged : NextTold flag_case 0 (tile (flagged_tile 9 5 2 column_0 row_0 14)) → ⊥
tells_exchanged told =
    let same = tile_once (next_told_once flag_case 0 (tile (flagged_tile 9 5 2 column_0 row_0 14)) (tile (flagged_tile 9 5 2 row_0 column_0 14)) told crossed) in
    let flags : ◌≡◌ {A = Option Line} column_0 row_0 = ap (λ (x : Tile). x.first) same in let z : ◌≡◌ {A = ℕ} 0 1 = cc in omega arith

-- one that judges a flag after the body: of a header with a wrong flag, behind which the tile is missing, it says 7
pub flag_after_body : NextTold flag_case 176 (refused 7 176) → ⊥
flag_after_body told = let e = next_told_once flag_case 176 (refused 4 176) (refused 7 176) no_row_4 told in let z : ◌≡◌ {A = ℕ} 4 7 = cc in omega arith

-- ---- of `after`, and so of `rest`

abbrev after_first : AfterTold whole_case 0 26
after_first = record { said = tile (plain_tile New 7 5 2 10); told = first; is = refl }

-- one that skips a byte behind the tile
pub after_skips_byte : AfterTold whole_case 0 27 → ⊥
after_skips_byte told = omega (arith, after_once whole_case 0 26 27 after_first told)

-- one that counts the tile's bytes from the record's first byte, and forgets the header
pub forgets_header : AfterTold whole_case 0 16 → ⊥
forgets_header told = omega (arith, after_once whole_case 0 26 16 after_first told)

-- one that moves on at a refusal
pub after_moves_on : AfterTold whole_case 52 53 → ⊥
after_moves_on told = let e = stays whole_case 52 53 (refused 7 52) third tt told in omega (arith, e)

-- ---- of `bytes` and `rest`

module _ (reel part : Bor (List ℕ)) (is : reel.now ≡ whole_case) where
  first_here : NextTold reel.now 0 (tile (plain_tile New 7 5 2 10))
  first_here = subst (λ (x : List ℕ). NextTold x 0 (tile (plain_tile New 7 5 2 10))) (sym is) first

  -- bytes of another length than the tile's
  pub other_length : (length part.now ≡ 16 → ⊥) → BytesTold reel 0 part → ⊥
  other_length other told = other (tile_stands reel part 0 (plain_tile New 7 5 2 10) first_here told).long

  -- a copy: the bytes are right, and stand in another block of memory
  pub a_copy : (part.ref_ptr.0 ≡ reel.ref_ptr.0 → ⊥) → BytesTold reel 0 part → ⊥
  a_copy other told =
      let stands = tile_stands reel part 0 (plain_tile New 7 5 2 10) first_here told in other (ap (λ (x : ℕ × ℕ). x.0) (stands.part.own (λ none. omega (arith, stands.long, ap length none))))

  -- a rest that is the whole reel, and one that is empty
  rest_long : RestTold reel 0 part → length part.now ≡ 27
  rest_long told =
      let from = after_once reel.now 0 told.from 26 told.told (subst (λ (x : List ℕ). AfterTold x 0 26) (sym is) after_first) in
      ap length (rest_drops reel part 0 told ∙ ap (λ (n : ℕ). drop n reel.now) from ∙ ap (drop 26) is)

  pub rest_is_all : part.now ≡ reel.now → RestTold reel 0 part → ⊥
  rest_is_all e told = omega (arith, rest_long told, ap length (e ∙ is))

  pub rest_is_none : part.now ≡ [] → RestTold reel 0 part → ⊥
  rest_is_none e told = omega (arith, rest_long told, ap length e)

-- ---- of the reader

-- one that begins behind the first byte
pub begins_at_1 : (reel : Bor (List ℕ)) (reader : Reader) → reader.at ≡ 1 → Begins reel reader → ⊥
begins_at_1 reel reader e begins = omega (arith, e, begins.1)

-- one that does not move on from a tile
pub never_moves : (reader : Reader) → reader.reel.now ≡ whole_case → reader.at ≡ 0 → MovesTo reader reader → ⊥
never_moves reader is at moves =
    let told = subst (λ (x : List ℕ). AfterTold x reader.at reader.at) is moves.1 in
    let here = subst (λ (n : ℕ). AfterTold whole_case n n) at told in omega (arith, after_once whole_case 0 0 26 here after_first)

-- one that says the first record again, and one that says the end
abbrev second_said : (said : Said) → SecondTold whole_case said → said ≡ tile (plain_tile New 8 5 2 36)
second_said said told =
    let at = after_once whole_case 0 told.at 26 told.behind after_first in
    next_told_once whole_case 26 said (tile (plain_tile New 8 5 2 36)) (subst (λ (n : ℕ). NextTold whole_case n said) at told.told) second

pub first_again : SecondTold whole_case (tile (plain_tile New 7 5 2 10)) → ⊥
first_again told = let e = second_said (tile (plain_tile New 7 5 2 10)) told in omega (arith, ap (λ (x : Tile). x.number) (tile_once e))

pub second_says_end : SecondTold whole_case end → ⊥
second_says_end told = subst NoTile (second_said end told) tt
