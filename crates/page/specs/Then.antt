-- How texts are put on a page one behind the other. Assumes nothing.
use Rattle.std.specs.Prelude.{◌≡◌, refl, List, [], ◌++◌, ℕ, ◌+◌, ◌-◌, ◌≤◌, ◌<◌, min, length, take, drop}
use Rattle.std.proofs.Common.{sym, ap, ◌∙◌, append-nil, append_assoc, arith, length-append, length-take, length-drop, drop_of_length-le, drop-drop, take_all}
use Rattle.std.proofs.Math.Decide.{dec_lt}
use borrow.Rule.Slice.PartMut.{put_mid}
use Rattle.std.proofs.lemmas.Slice.{take-put_mid, drop-put_mid}
use Rattle.lettering.specs.Line.{ascii, decimal}
use Rattle.page.specs.Page.{Puts, PutOn, right_aligned}
use Rattle.page.specs.declared.Page.{Page}

infixl 60 ◌then◌
-- nothing is put
pub puts_nothing : (page : List ℕ) (at : ℕ) → Puts page at [] at page
puts_nothing page at = record { long = omega arith; same = refl; is = sym (append-nil (take at page)); behind = refl }

-- a text, and behind it another
pub ◌then◌ : {page new last : List ℕ} {at to end : ℕ} {text more : List ℕ} → Puts page at text to new → Puts new to more end last → Puts page at (text ++ more) end last
◌then◌ {page} {new} {last} {at} {to} {end} {text} {more} first second = record {
  long = omega (arith, first.long, second.long, length-append text more);
  same = second.same ∙ first.same;
  is = second.is ∙ ap (λ (x : List ℕ). x ++ more) first.is ∙ append_assoc (take at page) text more;
  behind =
      let far : to + (end - to) ≡ end = omega (arith, second.long) in
      second.behind ∙ sym (ap (λ (n : ℕ). drop n new) far) ∙ sym (drop-drop (end - to) to new) ∙ ap (drop (end - to)) first.behind
      ∙ drop-drop (end - to) to page ∙ ap (λ (n : ℕ). drop n page) far;
}

-- the same on a page that says how much of it is used: a text, and behind it another ..
infixl 60 ◌and◌
pub ◌and◌ : {m n : ℕ} {page new last : Page} {text more : List ℕ} → PutOn m page text new → PutOn n new more last → PutOn (m + n) page (text ++ more) last
◌and◌ first second = record {
  puts = first.puts then second.puts;
  within = omega (arith, first.within, second.within);
  same = second.same ∙ first.same;
}

-- .. or nothing ..
pub nothing_on : (page : Page) → PutOn 0 page [] page
nothing_on page = record { puts = puts_nothing page.bytes.now page.used; within = omega arith; same = refl }

-- .. and what takes at most so much takes at most more
pub at_most : {m : ℕ} {page new : Page} {text : List ℕ} (n : ℕ) → m ≤ n → PutOn m page text new → PutOn n page text new
at_most n h put = record { puts = put.puts; within = omega (arith, put.within); same = put.same }

-- words that are copied to the place behind what is used are put there
pub put_copied : (page words : List ℕ) (used k : ℕ) (part : List ℕ) → used + length words ≤ length page → k ≡ length words → part ≡ words
    → Puts page used words (used + length words) (put_mid used k page part)
put_copied page words used k part fits long e = record {
  long = refl;
  same = simp (length-append, length-take, length-drop) (omega (arith, ap length e));
  is = rw (take-put_mid used k page part (used + length words) (omega (arith, ap length e)) (omega arith), e);
  behind = drop-put_mid used k page part (used + length words) (omega arith) (omega arith) (omega (arith, ap length e));
}

-- a number's digits, k of them, with as many of 12 spaces before them as are left; and those of which there are none left
pub aligned : (n k : ℕ) (digits : List ℕ) → digits ≡ decimal n → length digits ≡ k → k < 12
    → take (12 - k) (drop k (ascii "            ")) ++ digits ≡ right_aligned n
unfolding right_aligned
aligned n k digits e long h =
    let same : length (decimal n) ≡ k = sym (ap length e) ∙ long in
    rw (take_all (12 - k) (drop k (ascii "            ")) (simp length-drop (omega arith)), e, same)

pub filled_up : (n k : ℕ) (digits : List ℕ) → digits ≡ decimal n → length digits ≡ k → 12 ≤ k → digits ≡ right_aligned n
unfolding right_aligned
filled_up n k digits e long h =
    let same : length (decimal n) ≡ k = sym (ap length e) ∙ long in
    rw (e, same, drop_of_length-le (ascii "            ") h)

-- so as many of the 12 as there are digits are left out, and all of them where there are more digits
pub aligned_at_most : (n k m : ℕ) (digits : List ℕ) → digits ≡ decimal n → length digits ≡ k → m ≡ min k 12
    → take (12 - m) (drop m (ascii "            ")) ++ digits ≡ right_aligned n
aligned_at_most n k m digits e long is = go (dec_lt k 12)
  where
    go : Dec (k < 12) → take (12 - m) (drop m (ascii "            ")) ++ digits ≡ right_aligned n
    go (yes h) = let same : m ≡ k = omega arith in rw same (aligned n k digits e long h)
    go (no h) = let all : m ≡ 12 = omega arith in rw all (filled_up n k digits e long (omega arith))
