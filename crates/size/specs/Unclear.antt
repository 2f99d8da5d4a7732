-- What is said where it is not known what a tile was: which line is hurt, or what two lines held (SPEC 5.3, 5.4 and 9.1). Assumes nothing.
use Rattle.size.specs.declared.Refusal.{Refusal}
use Rattle.size.specs.declared.Refusal.TheVariants as refusal
use Rattle.size.specs.declared.Unclear.{Unclear}
use Rattle.size.specs.declared.Unclear.TheVariants as unclear

-- SPEC 5.3, 5.4 and 9.1: the refusal that each stands for
abbrev pub refusal_of : Unclear → Refusal
refusal_of unclear.Damaged = refusal.Damaged
refusal_of unclear.Doubtful = refusal.Doubtful
