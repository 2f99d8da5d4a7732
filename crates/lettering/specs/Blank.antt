-- The bytes of a line behind its text: they are 0, and so the text gives the bytes back. Assumes nothing.
use Rattle.std.specs.Prelude.{◌≡◌, List, ◌++◌, ℕ, ◌+◌, ◌-◌, ◌≤◌, length, take, drop}
use Rattle.std.proofs.Common.{sym, ap, ◌∙◌, arith}
use Rattle.std.proofs.Math.ListN.{replicate}
use Rattle.std.proofs.lemmas.List.{take-append-drop, length-take-le, length-take, length-append, length-drop, drop-drop, drop-replicate}
use Rattle.std.proofs.lemmas.Slice.{drop-put_mid}
use borrow.Rule.Slice.PartMut.{put_mid}

-- of 112 bytes, those from the n-th on are 0
pub record BlankBehind (n : ℕ) (bytes : List ℕ) : Type 0 where
  pub within : n ≤ 112
  pub long : length bytes ≡ 112
  pub behind : drop n bytes ≡ replicate (112 - n) 0

-- the bytes of a text, with 0 behind it
abbrev pub padded : List ℕ → List ℕ
padded text = text ++ replicate (112 - length text) 0

-- how many bytes a text has
abbrev pub count : List ℕ → ℕ
count text = length text

-- so many bytes are the text
pub text_long : (n : ℕ) (bytes : List ℕ) → BlankBehind n bytes → length (take n bytes) ≡ n
text_long n bytes h = length-take-le n bytes (omega arith)

-- and the text gives all of them back
pub padded_back : (n : ℕ) (bytes : List ℕ) → BlankBehind n bytes → padded (take n bytes) ≡ bytes
padded_back n bytes h = rw (text_long n bytes h) (ap (λ (r : List ℕ). take n bytes ++ r) (sym h.behind) ∙ take-append-drop n bytes)

-- words behind the text leave what is behind them 0
pub put_blank : (n k m : ℕ) (bytes words : List ℕ) → BlankBehind n bytes → length words ≡ k → m ≡ n + k → m ≤ 112 → BlankBehind m (put_mid n k bytes words)
put_blank n k m bytes words h e end room =
    let long : n ≤ length bytes = omega arith in
    let same = drop-put_mid n k bytes words m (omega arith) long e in
    let left : 112 - n - k ≡ 112 - m = omega arith in
    record {
      within = room;
      long = simp (length-append, length-drop, length-take) (omega arith);
      behind =
          same ∙ ap (λ (j : ℕ). drop j bytes) end ∙ sym (drop-drop k n bytes) ∙ ap (drop k) h.behind ∙ drop-replicate k (112 - n) 0
          ∙ ap (λ (j : ℕ). replicate j 0) left;
    }
