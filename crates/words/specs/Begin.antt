-- What a word begins with: the first signs of it tell. Assumes nothing.
use Rattle.std.specs.Prelude.{◌≡◌, Bool, true, false, List, ◌++◌, ℕ, ◌-◌, ◌≤◌, length, take, drop}
use Rattle.std.proofs.Common.{sym, ap, ◌∙◌, arith, length-append, length-drop, take-append-drop, take_all}
use Rattle.std.proofs.Math.Seq.{take-append_seam, drop-append_seam}
use Rattle.code.specs.Says.{Says}
use Rattle.words.specs.Words.{Begins}

-- a word whose first signs they are begins with them ..
pub begins : (first word : List ℕ) → take (length first) word ≡ first → Begins first word
begins first word e =
    let rest = drop (length first) word in
    record { rest = rest; is = sym (take-append-drop (length first) word) ∙ ap (λ (l : List ℕ). l ++ rest) e }

-- .. and of one that begins with them they are the first
pub begun : {first word : List ℕ} → Begins first word → take (length first) word ≡ first
begun {first} b = rw b.is (take-append_seam first b.rest)

-- what stands behind the first k signs, as a part of the word that ends where the word does
abbrev pub rest_from : ℕ → List ℕ → List ℕ
rest_from k word = take (length word - k) (drop k word)

pub behind : (first word rest : List ℕ) → word ≡ first ++ rest → rest ≡ rest_from (length first) word
behind first word rest e =
    let all = take_all (length word - length first) (drop (length first) word) (omega (arith, length-drop (length first) word)) in
    let stands : drop (length first) word ≡ rest = rw e (drop-append_seam first rest) in
    sym (all ∙ stands)

pub begun_length : {first word : List ℕ} → Begins first word → length first ≤ length word
begun_length {first} b = rw (b.is, length-append first b.rest) (omega arith)

-- so what says whether the first signs are these says whether the word begins with them
pub says_begins : (first word : List ℕ) (r : Bool) → Says r (take (length first) word ≡ first) → Says r (Begins first word)
says_begins first word true e = begins first word e
says_begins first word false d = λ b. d (begun b)
