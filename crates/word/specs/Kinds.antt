-- The kind and the record that a number names. Assumes nothing.
use Rattle.std.specs.Prelude.{◌≡◌, refl, ◌≢◌, ℕ}
use Rattle.std.proofs.Common.{ne_eqb}
use Rattle.code.specs.declared.Kind.{Kind}
use Rattle.code.specs.declared.Kind.TheVariants.{New, Old}
use Rattle.header.specs.declared.Mark.TheVariants as mark
use Rattle.word.specs.Word.{tile_kind, kind_number, mark_of}

-- 1 is old, and what is not 1 is new
pub kind_old : Old ≡ tile_kind 1
unfolding tile_kind
kind_old = refl

pub kind_new : (n : ℕ) → n ≢ 1 → New ≡ tile_kind n
unfolding tile_kind
kind_new n d = rw (ne_eqb n 1 d) refl

-- the number that a reel gives for a kind stands for that kind
pub kind_back : (k : Kind) → tile_kind (kind_number k) ≡ k
unfolding tile_kind
kind_back New = refl
kind_back Old = refl

-- and so with records: 1 is that of an old tile, 2 the flagged one, and what is neither that of a new tile
pub mark_old : mark.Old ≡ mark_of 1
unfolding mark_of
mark_old = refl

pub mark_flagged : mark.Flagged ≡ mark_of 2
unfolding mark_of
mark_flagged = refl

pub mark_plain : (n : ℕ) → n ≢ 1 → n ≢ 2 → mark.Plain ≡ mark_of n
unfolding mark_of
mark_plain n d e = rw (ne_eqb n 1 d, ne_eqb n 2 e) refl
