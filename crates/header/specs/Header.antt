-- WHAT A READER MUST BELIEVE: what stands before a tile's bytes in each of the three records (SPEC 7.1). Assumes nothing.
use Rattle.std.specs.Prelude.{◌≡◌, List, ℕ, ◌+◌, ◌≤◌, length, get_or, Option, Some, None}
use Rattle.code.specs.declared.Kind.{Kind}
use Rattle.code.specs.declared.Kind.TheVariants as kind
use Rattle.code.specs.declared.Line.{Line}
use Rattle.record.specs.Number.{big_endian, big_endian_long}
use Rattle.flag.specs.Flag.{flag_of}
use Rattle.promise.specs.Calls.{Has}
use Rattle.header.specs.declared.Mark.{Mark}
use Rattle.header.specs.declared.Mark.TheVariants.{Plain, Flagged, Old}
use Rattle.header.specs.declared.Header.{Header}

-- SPEC 7.1: the n-th byte of the record at a place
abbrev pub byte_of : List ℕ → ℕ → ℕ → ℕ
byte_of reel at n = get_or reel (at + n) 0

-- SPEC 7.1 and FORMATS: the mark of each record: D5 5D and D5 5E of a new tile, without flags and with them, and 5D D5 of an old one
abbrev pub Marked : Mark → List ℕ → ℕ → Type 0
Marked Plain reel at = (byte_of reel at 0 ≡ 0xD5) × (byte_of reel at 1 ≡ 0x5D)
Marked Flagged reel at = (byte_of reel at 0 ≡ 0xD5) × (byte_of reel at 1 ≡ 0x5E)
Marked Old reel at = (byte_of reel at 0 ≡ 0x5D) × (byte_of reel at 1 ≡ 0xD5)

-- SPEC 7.1: the kind of the tile, and how many bytes come before the tile's
abbrev pub kind_of : Mark → Kind
kind_of Plain = kind.New
kind_of Flagged = kind.New
kind_of Old = kind.Old

abbrev pub header_length : Mark → ℕ
header_length Plain = 10
header_length Flagged = 14
header_length Old = 10

-- SPEC 7.1 and FORMATS: p and l, each a number of two bytes; the tile's number, of four
abbrev pub size_of : List ℕ → ℕ → ℕ
size_of reel at = big_endian (byte_of reel at 2) (byte_of reel at 3)

abbrev pub slope_of : List ℕ → ℕ → ℕ
slope_of reel at = big_endian (byte_of reel at 4) (byte_of reel at 5)

abbrev pub number_of : List ℕ → ℕ → ℕ
number_of reel at = big_endian_long (byte_of reel at 6) (byte_of reel at 7) (byte_of reel at 8) (byte_of reel at 9)

-- SPEC 7.1 and FORMATS: a flag, in two bytes from the n-th on; a record without flags has none
abbrev pub flag_at : Mark → List ℕ → ℕ → ℕ → Option Line
flag_at Plain reel at n = None
flag_at Flagged reel at n = flag_of (big_endian (byte_of reel at n) (byte_of reel at (n + 1)))
flag_at Old reel at n = None

-- SPEC 7.2: the mark that the record at a place begins with, if it begins with one
abbrev pub StartIs : List ℕ → ℕ → Option Mark → Type 0
StartIs reel at (Some m) = Marked m reel at
StartIs reel at None = (m : Mark) → Marked m reel at → ⊥

-- SPEC 7.1: a whole header stands at a place, and this is what it says
pub record HeaderAt (reel : List ℕ) (at : ℕ) (h : Header) : Type 0 where
  pub marked : Marked h.mark reel at
  pub whole : at + header_length h.mark ≤ length reel
  pub size : h.p ≡ size_of reel at
  pub slope : h.l ≡ slope_of reel at
  pub number : h.number ≡ number_of reel at
  pub first : h.first ≡ flag_at h.mark reel at 10
  pub second : h.second ≡ flag_at h.mark reel at 12

-- SPEC 7.2 and 7.5: what a record may carry: the flag of a line, if it is a flagged one and a tile of its size has the line; and always
-- none
abbrev pub LineCarried : Mark → ℕ → Line → Type 0
LineCarried Plain p a = ⊥
LineCarried Flagged p a = Has p a
LineCarried Old p a = ⊥

abbrev pub Carried : Mark → ℕ → Option Line → Type 0
Carried m p None = Unit {0}
Carried m p (Some a) = LineCarried m p a

abbrev pub Carries : Header → Type 0
Carries h = Carried h.mark h.p h.first × Carried h.mark h.p h.second
