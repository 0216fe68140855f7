-- How instructions are kept: cells behind change none that is stored, and the newest sets make an instruction.
use Rattle.std.proofs.Common.{◌≡◌, ℕ, ◌+◌, ◌≤◌, List, [], ◌∷◌, ◌++◌, length, take, drop, map, refl, sym, ap, subst, ◌∙◌, append_assoc, length-append, length-drop, arith}
use Rattle.std.specs.List.{flat_map, AllByRecursion}
use Rattle.std.proofs.lemmas.List.{append-nil, drop-append-le, map-append}
use Rattle.zcert.specs.declared.instructions.Stored.{Stored}
use Rattle.zcert.specs.declared.field.Header.{Header}
use Rattle.zcert.specs.Certificate.{Instruction}
use Rattle.zcert.specs.Format.{Format}
use Rattle.zcert.specs.Keeping.{Keeping, AreKept, Keep, Holds}
use Rattle.zcert.specs.Contents.{values_of, stored_instruction, LiesIn, AllLieIn, AreNewest, AreHeld}
use Rattle.zcert.specs.Building.{instruction_of}

all_append : {A : Type 0} (P : A → Type 0) (xs ys : List A) → AllByRecursion P xs → AllByRecursion P ys → AllByRecursion P (xs ++ ys)
all_append P [] ys all more = more
all_append P (x ∷ xs) ys all more = (all.0, all_append P xs ys all.1 more)

flat_more : {A B : Type 0} (f : A → List B) (xs : List A) (y : A) → flat_map f xs ++ f y ≡ flat_map f (xs ++ y ∷ [])
flat_more f [] y = sym (append-nil (f y))
flat_more f (x ∷ xs) y = append_assoc (f x) (flat_map f xs) (f y) ∙ ap (λ t. f x ++ t) (flat_more f xs y)

module _ {V C : Type 0} (format : Format V) (keeping : Keeping V C) (law : AreKept format keeping) where
  -- none are found as none
  pub no_sets : (cells : List C) → keeping.sets 0 cells ≡ []
  no_sets cells = law.again [] cells tt

  -- the newest sets are those that were kept
  kept_sets : (sets : List V) (came : ℕ) (cells : List C) → length sets ≡ came → Keep format keeping sets cells → keeping.sets came cells ≡ sets
  kept_sets sets came cells counted keep =
      ap (λ n. keeping.sets n cells) (sym counted)
      ∙ ap (keeping.sets (length sets)) (keep.are ∙ sym (append-nil (flat_map keeping.cells sets)))
      ∙ law.again sets [] keep.have

  newest_sets : (start came : ℕ) (cells : List C) (n : AreNewest format keeping start came cells) → keeping.sets came (drop start cells) ≡ n.sets
  newest_sets start came cells n = kept_sets n.sets came (drop start cells) n.counted n.keep

  pub newest_count : (start came : ℕ) (cells : List C) → AreNewest format keeping start came cells → length (keeping.sets came (drop start cells)) ≡ came
  newest_count start came cells n = ap length (newest_sets start came cells n) ∙ n.counted

  as_many_cells : (sets : List V) → length sets ≤ length (flat_map keeping.cells sets)
  as_many_cells [] = omega arith
  as_many_cells (v ∷ vs) = omega (arith, as_many_cells vs, law.some v, length-append (keeping.cells v) (flat_map keeping.cells vs))

  -- no more sets have come than there are cells
  pub newest_few : (start came : ℕ) (cells : List C) → AreNewest format keeping start came cells → came ≤ length cells
  newest_few start came cells n =
      let counted = n.counted in
      omega (arith, counted, as_many_cells n.sets, ap length n.keep.are, length-drop start cells)

  keep_more : (sets : List V) (v : V) (cells : List C) → Keep format keeping sets cells → format.Has v → Keep format keeping (sets ++ v ∷ []) (cells ++ keeping.cells v)
  keep_more sets v cells keep has = record {
    have = all_append format.Has sets (v ∷ []) keep.have (has, tt);
    are = ap (λ t. t ++ keeping.cells v) keep.are ∙ flat_more keeping.cells sets v;
  }

  holds_more : (count : ℕ) (cells more : List C) → Holds format keeping count cells → Holds format keeping count (cells ++ more)
  holds_more count cells more held = record {
    kept = held.kept;
    rest = held.rest ++ more;
    counted = held.counted;
    have = held.have;
    are = ap (λ t. t ++ more) held.are ∙ append_assoc (flat_map keeping.cells held.kept) held.rest more;
  }

  sets_held : (count : ℕ) (cells : List C) (held : Holds format keeping count cells) → keeping.sets count cells ≡ held.kept
  sets_held count cells held = ap (λ n. keeping.sets n cells) (sym held.counted) ∙ ap (keeping.sets (length held.kept)) held.are ∙ law.again held.kept held.rest held.have

  lies_more : (cells more : List C) (s : Stored) → LiesIn format keeping cells s → LiesIn format keeping (cells ++ more) s
  lies_more cells more s lies = record {
    begun = let b = lies.begun in omega (arith, length-append cells more);
    holds = subst (Holds format keeping (s.locals + s.height)) (sym (drop-append-le s.start cells more lies.begun)) (holds_more (s.locals + s.height) (drop s.start cells) more lies.holds);
  }

  all_lie_more : (cells more : List C) (ss : List Stored) → AllLieIn format keeping cells ss → AllLieIn format keeping (cells ++ more) ss
  all_lie_more cells more [] all = tt
  all_lie_more cells more (s ∷ ss) all = (lies_more cells more s all.0, all_lie_more cells more ss all.1)

  values_stay : (cells more : List C) (s : Stored) → LiesIn format keeping cells s → values_of keeping (cells ++ more) s ≡ values_of keeping cells s
  unfolding holds_more
  values_stay cells more s lies =
      let count = s.locals + s.height in
      ap (keeping.sets count) (drop-append-le s.start cells more lies.begun)
      ∙ sets_held count (drop s.start cells ++ more) (holds_more count (drop s.start cells) more lies.holds)
      ∙ sym (sets_held count (drop s.start cells) lies.holds)

  -- an instruction by its stored header and its sets
  abbrev with_sets : Stored → List V → Instruction V
  with_sets s values = record { address = s.address; routine = s.routine; is_marked = s.is_marked; locals = take s.locals values; slots = drop s.locals values }

  pub instructions_stay : (cells more : List C) (ss : List Stored) → AllLieIn format keeping cells ss → map (stored_instruction keeping (cells ++ more)) ss ≡ map (stored_instruction keeping cells) ss
  instructions_stay cells more [] all = refl
  instructions_stay cells more (s ∷ ss) all =
      ap (λ (i : Instruction V). i ∷ map (stored_instruction keeping (cells ++ more)) ss) (ap (with_sets s) (values_stay cells more s all.0))
      ∙ ap (λ (is : List (Instruction V)). stored_instruction keeping cells s ∷ is) (instructions_stay cells more ss all.1)

  -- ---- one more set

  more_newest : (start came : ℕ) (cells : List C) (v : V) → AreNewest format keeping start came cells → format.Has v → AreNewest format keeping start (came + 1) (cells ++ keeping.cells v)
  more_newest start came cells v n has = record {
    begun = let b = n.begun in omega (arith, length-append cells (keeping.cells v));
    sets = n.sets ++ v ∷ [];
    counted = let b = n.counted in omega (arith, length-append n.sets (v ∷ []));
    keep = subst (Keep format keeping (n.sets ++ v ∷ [])) (sym (drop-append-le start cells (keeping.cells v) n.begun)) (keep_more n.sets v (drop start cells) n.keep has);
  }

  pub more_held : (stored : List Stored) (cells : List C) (start came : ℕ) (v : V) → AreHeld format keeping stored cells start came → format.Has v → AreHeld format keeping stored (cells ++ keeping.cells v) start (came + 1)
  more_held stored cells start came v held has = record {
    lie = all_lie_more cells (keeping.cells v) stored held.lie;
    newest = more_newest start came cells v held.newest has;
  }

  pub more_values : (start came : ℕ) (cells : List C) (v : V) → AreNewest format keeping start came cells → format.Has v → keeping.sets (came + 1) (drop start (cells ++ keeping.cells v)) ≡ keeping.sets came (drop start cells) ++ v ∷ []
  unfolding more_newest
  more_values start came cells v n has =
      newest_sets start (came + 1) (cells ++ keeping.cells v) (more_newest start came cells v n has)
      ∙ ap (λ vs. vs ++ v ∷ []) (sym (newest_sets start came cells n))

  -- ---- one more instruction

  abbrev pub with_start : Header → ℕ → Stored
  with_start h start = record { address = h.address; routine = h.routine; locals = h.locals; height = h.height; is_marked = h.is_marked; start = start }

  -- the newest sets, from `start` on, make the instruction
  newest_lies : (start came : ℕ) (cells : List C) (h : Header) → AreNewest format keeping start came cells → came ≡ h.locals + h.height → LiesIn format keeping cells (with_start h start)
  newest_lies start came cells h n same = record {
    begun = n.begun;
    holds = record { kept = n.sets; rest = []; counted = n.counted ∙ same; have = n.keep.have; are = n.keep.are ∙ sym (append-nil (flat_map keeping.cells n.sets)) };
  }

  pub stored_held : (stored : List Stored) (cells : List C) (start came : ℕ) (h : Header) → AreHeld format keeping stored cells start came → came ≡ h.locals + h.height → AreHeld format keeping (stored ++ with_start h start ∷ []) cells start came
  stored_held stored cells start came h held same = record {
    lie = all_append (LiesIn format keeping cells) stored (with_start h start ∷ []) held.lie (newest_lies start came cells h held.newest same, tt);
    newest = held.newest;
  }

  pub stored_instructions : (stored : List Stored) (cells : List C) (start came : ℕ) (h : Header) → came ≡ h.locals + h.height
      → map (stored_instruction keeping cells) (stored ++ with_start h start ∷ []) ≡ map (stored_instruction keeping cells) stored ++ instruction_of h (keeping.sets came (drop start cells)) ∷ []
  stored_instructions stored cells start came h same =
      map-append (stored_instruction keeping cells) stored (with_start h start ∷ [])
      ∙ ap (λ n. map (stored_instruction keeping cells) stored ++ instruction_of h (keeping.sets n (drop start cells)) ∷ []) (sym same)
