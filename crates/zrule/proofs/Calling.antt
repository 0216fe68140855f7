-- What the code asks of a routine that is called, by the definitions.
use Rattle.std.proofs.Common.{◌≡◌, ◌↔◌, ◌⊎◌, inl, inr, ℕ, zero, suc, ◌+◌, ◌-◌, ◌*◌, ◌<◌, ◌≤◌, Bool, List, [], ◌∷◌, length, drop, take, take_all, Option, Some, None, refl, sym, ap, subst, ◌∙◌, arith}
use Rattle.std.specs.Prelude.{IsTrue, IfSome, MatchOption, ◌==◌, slice_get, slice_index_or}
use Rattle.std.proofs.lemmas.Bool.{cases_lt, eqb-true}
use Rattle.std.proofs.lemmas.Option.{same_Some}
use Rattle.zstory.specs.Bytes.{byte_at, word_at}
use Rattle.zstory.specs.LoadedStory.{LoadedStory}
use Rattle.zdomain.specs.Domain.{SetOperations, In, Within}
use Rattle.zstate.specs.Step.{words_from, initial, behind_head}
use Rattle.zrule.specs.Claims.{Entry, Claims}
use Rattle.zrule.specs.Edges.{IsNextAbove}
use Rattle.zrule.specs.Rules.{AreImplied, Begins, Starts}

module _ {V : Type 0} (o : SetOperations V) (claims : Claims V) where
  -- where no local is left, no word may be
  pub starts_none : (args : List V) (memory : List ℕ) (at count : ℕ) (locals : List V) → length locals < 1 → IsTrue (count == 0) ↔ Starts o claims args (words_from memory at count) locals
  unfolding words_from
  starts_none args memory at zero [] few = (λ t. tt, λ s. refl)
  starts_none [] memory at (suc count) [] few = (λ t. absurd (let e = eqb-true (suc count) 0 t in omega (arith, e)), λ s. absurd s)
  starts_none (a ∷ args) memory at (suc count) [] few = (λ t. absurd (let e = eqb-true (suc count) 0 t in omega (arith, e)), λ s. absurd s)
  starts_none args memory at count (b ∷ locals) few = absurd (omega (arith, few))

  pub starts_short : (args : List V) (memory : List ℕ) (at count : ℕ) (locals : List V) → 1 ≤ length locals → count ≡ 0 → Starts o claims args (words_from memory at count) locals → ⊥
  unfolding words_from
  starts_short args memory at zero [] more none s = absurd (omega (arith, more))
  starts_short args memory at zero (b ∷ locals) more none s = s
  starts_short args memory at (suc count) locals more none s = absurd (omega (arith, none))

  -- a local that no argument is given for has its initial word
  free : (memory : List ℕ) (at count : ℕ) (locals : List V) (b : V) → 1 ≤ length locals → b ≡ slice_index_or locals 0 b → (count ≡ 0 → ⊥)
      → Starts o claims [] (words_from memory at count) locals ↔ (In o b (word_at memory at) × Starts o claims [] (words_from memory (at + 2) (count - 1)) (take (length locals - 1) (drop 1 locals)))
  unfolding words_from
  free memory at count [] b more first some = absurd (omega (arith, more))
  free memory at zero (x ∷ locals) b more first some = absurd (some refl)
  free memory at (suc count) (x ∷ locals) b more first some =
      let all : take (length (x ∷ locals) - 1) locals ≡ locals = take_all (length (x ∷ locals) - 1) locals (omega arith) in
      let next : suc count - 1 ≡ count = omega arith in
      rw (first, all, next) (λ s. s, λ s. s)

  -- and one that is given one has that
  given : (args : List V) (memory : List ℕ) (at count : ℕ) (locals : List V) (a b : V) → 1 ≤ length locals → b ≡ slice_index_or locals 0 b → (count ≡ 0 → ⊥)
      → Starts o claims (a ∷ args) (words_from memory at count) locals ↔ (Within o a b × Starts o claims args (words_from memory (at + 2) (count - 1)) (take (length locals - 1) (drop 1 locals)))
  unfolding words_from
  given args memory at count [] a b more first some = absurd (omega (arith, more))
  given args memory at zero (x ∷ locals) a b more first some = absurd (some refl)
  given args memory at (suc count) (x ∷ locals) a b more first some =
      let all : take (length (x ∷ locals) - 1) locals ≡ locals = take_all (length (x ∷ locals) - 1) locals (omega arith) in
      let next : suc count - 1 ≡ count = omega arith in
      rw (first, all, next) (λ s. s, λ s. s)

  -- so the first of the locals has the first argument, if there is one, and the rest those behind it
  pub starts_next : (args rest : List V) (memory : List ℕ) (at count : ℕ) (locals : List V) (b : V) → rest ≡ drop 1 args → 1 ≤ length locals → b ≡ slice_index_or locals 0 b → (count ≡ 0 → ⊥)
      → Starts o claims args (words_from memory at count) locals ↔ (MatchOption (slice_get args 0) (In o b (word_at memory at)) (λ a. Within o a b) × Starts o claims rest (words_from memory (at + 2) (count - 1)) (take (length locals - 1) (drop 1 locals)))
  starts_next [] rest memory at count locals b is more first some = rw is (free memory at count locals b more first some)
  starts_next (a ∷ args) rest memory at count locals b is more first some = rw is (given args memory at count locals a b more first some)

  -- a routine at a place, of which the first instruction is this
  pub begins_where : (story : LoadedStory) (args : List V) (p index : ℕ) (first : Entry V) → claims.routine_at p ≡ Some index → claims.entry (behind_head story.memory p) ≡ Some first
      → Begins o claims story args p ↔ ((first.routine ≡ suc index) × (first.shape.slots ≡ []) × Starts o claims args (initial story.memory p) first.shape.locals × AreImplied o claims.globals (claims.facts (behind_head story.memory p)))
  begins_where story args p index first routine listed = (there, λ h. record { index = index; routine = routine; entry = first; listed = listed; same = h.0; empty = h.1; starts = h.2; implied = h.3 })
    where
      there : Begins o claims story args p → (first.routine ≡ suc index) × (first.shape.slots ≡ []) × Starts o claims args (initial story.memory p) first.shape.locals × AreImplied o claims.globals (claims.facts (behind_head story.memory p))
      there begins =
          let same : begins.entry ≡ first = same_Some begins.entry first (sym begins.listed ∙ listed) in
          let number : begins.index ≡ index = same_Some begins.index index (sym begins.routine ∙ routine) in
          (subst (λ (e : Entry V). e.routine ≡ suc index) same (begins.same ∙ ap (λ (k : ℕ). suc k) number), subst (λ (e : Entry V). e.shape.slots ≡ []) same begins.empty, subst (λ (e : Entry V). Starts o claims args (initial story.memory p) e.shape.locals) same begins.starts, begins.implied)

  -- as the code reads its head, from a list that is the memory
  pub begins_by : (story : LoadedStory) (args : List V) (p index : ℕ) (first : Entry V) (memory : List ℕ) (count code : ℕ) → memory ≡ story.memory → count ≡ byte_at memory p → code ≡ p + 1 + 2 * count → claims.routine_at p ≡ Some index → claims.entry code ≡ Some first
      → Begins o claims story args p ↔ (((first.routine ≡ suc index) × (first.shape.slots ≡ [])) × Starts o claims args (words_from memory (p + 1) count) first.shape.locals × AreImplied o claims.globals (claims.facts code))
  begins_by story args p index first memory count code memory_is count_is code_is routine listed =
      let code_there : code ≡ behind_head story.memory p = rw (code_is, count_is, memory_is) refl in
      let told = begins_where story args p index first routine (subst (λ (n : ℕ). claims.entry n ≡ Some first) code_there listed) in
      let words : words_from memory (p + 1) count ≡ initial story.memory p = rw (count_is, memory_is) refl in (
        λ b. let parts = told.0 b in ((parts.0, parts.1), subst (λ (ws : List ℕ). Starts o claims args ws first.shape.locals) (sym words) parts.2, subst (λ (n : ℕ). AreImplied o claims.globals (claims.facts n)) (sym code_there) parts.3),
        λ h. told.1 (h.0.0, h.0.1, subst (λ (ws : List ℕ). Starts o claims args ws first.shape.locals) words h.1, subst (λ (n : ℕ). AreImplied o claims.globals (claims.facts n)) code_there h.2),
      )

  pub begins_nowhere : (story : LoadedStory) (args : List V) (p : ℕ) → claims.routine_at p ≡ None → Begins o claims story args p → ⊥
  begins_nowhere story args p none begins = let routine = begins.routine in absurd cc

  pub begins_unlisted : (story : LoadedStory) (args : List V) (p : ℕ) → claims.entry (behind_head story.memory p) ≡ None → Begins o claims story args p → ⊥
  begins_unlisted story args p none begins = let listed = begins.listed in absurd cc

-- what is asked of a thing that is there
pub if_there : {A : Type 0} (option : Option A) (x : A) (P : A → Type 0) (b : Bool) → option ≡ Some x → IsTrue b ↔ P x → IsTrue b ↔ IfSome option P
if_there option x P b is told = subst (λ (o : Option _). IsTrue b ↔ IfSome o P) (sym is) told

-- ---- each word of a set

module _ {V : Type 0} (o : SetOperations V) (set : V) (P : ℕ → Type 0) where
  -- all words below the next keep what is asked
  pub record Told (next : Option ℕ) : Type 0 where
    pub before : (x : ℕ) → In o set x → (x ≡ 0 → ⊥) → IfSome next (λ w. x < w) → P x
    pub here : IfSome next (λ w. In o set w × (0 < w))

  above_zero : (x : ℕ) → (x ≡ 0 → ⊥) → 0 < x
  above_zero zero some = absurd (some refl)
  above_zero (suc x) some = omega arith

  pub told_first : (next : Option ℕ) → IsNextAbove o set 0 next → Told next
  told_first None none = record { before = λ x inside some t. absurd (let few = none x inside in let more = above_zero x some in omega (arith, few, more)); here = tt }
  told_first (Some w) least = record {
    before = λ x inside some below. absurd (let above = least.2 x inside (above_zero x some) in omega (arith, above, below));
    here = (least.0, least.1);
  }

  pub told_next : (w last : ℕ) (next : Option ℕ) → Told (Some w) → w ≤ last → ((x : ℕ) → w ≤ x → x ≤ last → P x) → IsNextAbove o set last next → Told next
  told_next w last next told more kept least = of next least
    where
      up_to : (x : ℕ) → In o set x → (x ≡ 0 → ⊥) → x ≤ last → P x
      up_to x inside some most = by_case (cases_lt x w)
        where
          by_case : (x < w) ⊎ (w ≤ x) → P x
          by_case (inl less) = told.before x inside some less
          by_case (inr enough) = kept x enough most

      of : (next : Option ℕ) → IsNextAbove o set last next → Told next
      of None none = record { before = λ x inside some t. up_to x inside some (none x inside); here = tt }
      of (Some n) least = record {
        before = λ x inside some below. up_to x inside some (not_above x inside below);
        here = (least.0, (let above = least.1 in omega (arith, above)));
      }
        where
          not_above : (x : ℕ) → In o set x → x < n → x ≤ last
          not_above x inside below = by_case (cases_lt last x)
            where
              by_case : (last < x) ⊎ (x ≤ last) → x ≤ last
              by_case (inl past) = absurd (let above = least.2 x inside past in omega (arith, above, below))
              by_case (inr most) = most

-- how many words may come
abbrev pub words_left : Option ℕ → ℕ
words_left None = 0
words_left (Some w) = 65536 - w

pub fewer_left : {V : Type 0} (o : SetOperations V) (set : V) (w last : ℕ) (next : Option ℕ) → In o set w → w ≤ last → IsNextAbove o set last next → words_left next < words_left (Some w)
fewer_left o set w last None inside more none = let word = inside.word in omega (arith, word)
fewer_left o set w last (Some n) inside more least = let word = inside.word in let above = least.1 in omega (arith, word, more, above)
