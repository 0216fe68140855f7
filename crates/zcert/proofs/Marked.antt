-- A height and a mark are told by their byte, and an edition by what its certificates have.
use Rattle.std.proofs.Common.{◌≡◌, ℕ, suc, ◌+◌, ◌<◌, ◌≤◌, Bool, true, false, List, [], ◌∷◌, length, map, Option, None, Some, refl, sym, ap, ◌∙◌, arith}
use Rattle.std.specs.Prelude.{nat_le, is_some}
use Rattle.std.specs.List.{filter}
use Rattle.std.proofs.Math.Bool.{cond}
use Rattle.std.proofs.lemmas.Bool.{leb-true, le-leb, lt-leb}
use Rattle.zcert.specs.declared.edition.Edition.{Edition}
use Rattle.zcert.specs.declared.edition.Edition.TheVariants as editions
use Rattle.zcert.specs.declared.instructions.Stored.{Stored}
use Rattle.zcert.specs.declared.limits.TheConstants.{MARK, MAX_HEIGHT}
use Rattle.zcert.specs.Certificate.{Instruction}
use Rattle.zcert.specs.Contents.{has_mark, stored_instruction}
use Rattle.zcert.specs.Editions.{is_limited, is_marking, is_stating, edition_by}
use Rattle.zcert.specs.Format.{Format, IsAllowed}
use Rattle.zcert.specs.Keeping.{Keeping}
use Rattle.zcert.specs.Marks.{height_byte, is_mark, without, height_in, IsMarkable, marks}
use Rattle.zcert.specs.Spelling.{MayMark, MayState, IsLimit}

-- ---- the byte of a height

-- what was read is written again
pub byte_again : (marking : Bool) (byte : ℕ) → height_byte (is_mark marking byte) (height_in marking byte) ≡ byte
byte_again false byte = refl
byte_again true byte = by (nat_le MARK byte) refl
  where
    by : (mark : Bool) → nat_le MARK byte ≡ mark → height_byte mark (without mark byte) ≡ byte
    by true e = omega (arith, leb-true MARK byte e)
    by false e = refl

pub byte_has_room : (mark : Bool) (height : ℕ) → height ≤ MAX_HEIGHT → height_byte mark height < 256
byte_has_room true height few = omega (arith, few)
byte_has_room false height few = omega (arith, few)

module _ {V : Type 0} where
  -- and what is written is read again
  pub mark_again : (marking : Bool) (i : Instruction V) (height : ℕ) → height ≤ MAX_HEIGHT → IsMarkable marking i → is_mark marking (height_byte i.is_marked height) ≡ i.is_marked
  mark_again true i height few is = by i.is_marked
    where
      by : (mark : Bool) → nat_le MARK (height_byte mark height) ≡ mark
      by true = le-leb MARK (height + MARK) (omega arith)
      by false = lt-leb MARK height (omega (arith, few))
  mark_again false i height few is = sym is

  pub height_again : (marking : Bool) (i : Instruction V) (height : ℕ) → height ≤ MAX_HEIGHT → IsMarkable marking i → height_in marking (height_byte i.is_marked height) ≡ height
  height_again marking i height few is = ap (λ mark. without mark (height_byte i.is_marked height)) (mark_again marking i height few is) ∙ by i.is_marked
    where
      by : (mark : Bool) → without mark (height_byte mark height) ≡ height
      by true = omega arith
      by false = refl

  -- what was read is marked only where that may be
  pub markable : (marking : Bool) (byte : ℕ) (i : Instruction V) → i.is_marked ≡ is_mark marking byte → IsMarkable marking i
  markable true byte i e = tt
  markable false byte i e = e

-- ---- how many are marked

module _ {V C : Type 0} (keeping : Keeping V C) (cells : List C) where
  -- as many as of those that are stored
  pub marks_stored : (ss : List Stored) → length (filter has_mark ss) ≡ marks (map (stored_instruction keeping cells) ss)
  marks_stored [] = refl
  marks_stored (s ∷ ss) = by (marks_stored ss) s.is_marked
    where
      by : length (filter has_mark ss) ≡ marks (map (stored_instruction keeping cells) ss) → (mark : Bool) → length (cond mark (s ∷ filter has_mark ss) (filter has_mark ss)) ≡ length (cond mark (stored_instruction keeping cells s ∷ filter (λ (i : Instruction V). i.is_marked) (map (stored_instruction keeping cells) ss)) (filter (λ (i : Instruction V). i.is_marked) (map (stored_instruction keeping cells) ss)))
      by others true = ap suc others
      by others false = others

-- ---- editions

pub limited_by : (limit : Option ℕ) (marking stating : Bool) → is_limited (edition_by limit marking stating) ≡ is_some limit
limited_by None marking stating = refl
limited_by (Some n) true true = refl
limited_by (Some n) true false = refl
limited_by (Some n) false stating = refl

pub marking_by : (limit : Option ℕ) (marking stating : Bool) → MayMark limit marking → is_marking (edition_by limit marking stating) ≡ marking
marking_by None marking stating may = sym may
marking_by (Some n) true true may = refl
marking_by (Some n) true false may = refl
marking_by (Some n) false stating may = refl

pub stating_by : (limit : Option ℕ) (marking stating : Bool) → MayMark limit marking → MayState marking stating → is_stating (edition_by limit marking stating) ≡ stating
stating_by None true stating may state = absurd cc
stating_by None false stating may state = sym state
stating_by (Some n) true true may state = refl
stating_by (Some n) true false may state = refl
stating_by (Some n) false stating may state = sym state

pub edition_again : (edition : Edition) (limit : Option ℕ) → is_some limit ≡ is_limited edition → edition_by limit (is_marking edition) (is_stating edition) ≡ edition
edition_again editions.Plain None e = refl
edition_again editions.Plain (Some n) e = absurd cc
edition_again editions.Limited None e = absurd cc
edition_again editions.Limited (Some n) e = refl
edition_again editions.Marking None e = absurd cc
edition_again editions.Marking (Some n) e = refl
edition_again editions.Stating None e = absurd cc
edition_again editions.Stating (Some n) e = refl

pub may_mark : (edition : Edition) (limit : Option ℕ) → is_some limit ≡ is_limited edition → MayMark limit (is_marking edition)
may_mark editions.Plain None e = refl
may_mark editions.Plain (Some n) e = tt
may_mark editions.Limited None e = absurd cc
may_mark editions.Limited (Some n) e = tt
may_mark editions.Marking None e = absurd cc
may_mark editions.Marking (Some n) e = tt
may_mark editions.Stating None e = absurd cc
may_mark editions.Stating (Some n) e = tt

pub may_state : (edition : Edition) → MayState (is_marking edition) (is_stating edition)
may_state editions.Plain = refl
may_state editions.Limited = refl
may_state editions.Marking = tt
may_state editions.Stating = tt

module _ {V : Type 0} (format : Format V) where
  pub may_limit : (edition : Edition) → IsAllowed format edition → is_limited edition ≡ true → format.limited ≡ true
  may_limit editions.Plain may e = absurd cc
  may_limit editions.Limited may e = may
  may_limit editions.Marking may e = may
  may_limit editions.Stating may e = may

  pub edition_allowed : (limit : Option ℕ) (marking stating : Bool) → IsLimit format limit → IsAllowed format (edition_by limit marking stating)
  edition_allowed None marking stating is = tt
  edition_allowed (Some n) true true is = is.0
  edition_allowed (Some n) true false is = is.0
  edition_allowed (Some n) false stating is = is.0
