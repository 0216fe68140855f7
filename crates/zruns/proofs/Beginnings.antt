-- Where texts begin that no play changes, and which words of a set name such places.
use Rattle.std.proofs.Common.{◌≡◌, ◌↔◌, ◌⊎◌, inl, inr, ℕ, zero, suc, ◌+◌, ◌-◌, ◌*◌, ◌/◌, ◌<◌, ◌≤◌, Bool, true, false, ◌&&◌, ◌||◌, ◌==◌, List, [], ◌∷◌, length, drop, Option, Some, None, option_map, refl, sym, subst, ap, ◌∙◌, arith}
use Rattle.std.specs.Prelude.{IsTrue, IfSome, nat_le, nat_lt, slice_index_or}
use Rattle.std.proofs.lemmas.Bool.{cases_lt, ne_eqb, eq-eqb, lt-ltb, le-ltb, ltb-true, le-leb, leb-true, and_parts, and_from, or_cases, or_left, or_right}
use Rattle.std.proofs.lemmas.List.{drop_more, length-drop}
use Rattle.std.proofs.lemmas.Option.{same_Some}
use Rattle.zstory.specs.Bytes.{byte_at}
use Rattle.zstory.specs.LoadedStory.{LoadedStory}
use Rattle.ztext.specs.Words.{front_text, text_at}
use Rattle.zword.specs.declared.addressing.Addressing.{Addressing}
use Rattle.zword.specs.Addressing.{place_of}
use Rattle.zdomain.specs.Domain.{SetOperations, In}
use Rattle.zdomain.specs.Marks.{is_marked}
use Rattle.zpairs.specs.Frozen.{FrozenStory, frozen_by}
use Rattle.zplace.specs.Bytes.{IsWithin, IsFixed}
use Rattle.zpairs.specs.Fixed.{is_fixed}
use Rattle.zruns.specs.Texts.{HasFixedText, begins_text, AreTextMarks, AreMarkedBlocks, IsLeastFrom}
use Rattle.zpairs.proofs.Telling.{fixed_is}

-- ---- a text, by its first word

module _ (memory : List ℕ) (at : ℕ) where
  two_bytes : at + 1 < length memory → drop at memory ≡ byte_at memory at ∷ byte_at memory (at + 1) ∷ drop (at + 2) memory
  two_bytes inside =
      let two : at + 1 + 1 ≡ at + 2 = omega arith in
      drop_more memory at 0 (omega (arith, inside)) ∙ ap (λ (bytes : List ℕ). byte_at memory at ∷ bytes) (drop_more memory (at + 1) 0 inside ∙ ap (λ (p : ℕ). byte_at memory (at + 1) ∷ drop p memory) two)

  text_ends : at + 1 < length memory → 128 ≤ byte_at memory at → text_at memory at ≡ Some (byte_at memory at ∷ byte_at memory (at + 1) ∷ [])
  text_ends inside last = let e = le-ltb (byte_at memory at) 128 last in ap front_text (two_bytes inside) ∙ rw e refl

  text_goes_on : at + 1 < length memory → byte_at memory at < 128 → text_at memory at ≡ option_map (λ text. byte_at memory at ∷ byte_at memory (at + 1) ∷ text) (text_at memory (at + 2))
  text_goes_on inside more = let e = lt-ltb (byte_at memory at) 128 more in ap front_text (two_bytes inside) ∙ rw e refl

  no_text : length memory ≤ at + 1 → text_at memory at ≡ None
  no_text outside = short (drop at memory) (let left = length-drop at memory in omega (arith, left, outside))
    where
      short : (bytes : List ℕ) → length bytes ≤ 1 → front_text bytes ≡ None
      short [] few = refl
      short (h ∷ []) few = refl
      short (h ∷ l ∷ bytes) few = absurd (omega (arith, few))

pub none_is_some : {A : Type 0} (found : Option A) (x : A) → found ≡ None → found ≡ Some x → ⊥
none_is_some found x none some = let e = sym none ∙ some in cc

module _ (story : LoadedStory) (is_frozen : ℕ → Bool) (at : ℕ) where
  -- its first two bytes
  both_fixed : IsFixed story is_frozen at → IsFixed story is_frozen (at + 1) → (p : ℕ) → at ≤ p → p < at + 2 → IsFixed story is_frozen p
  both_fixed high low p above below = by_order (cases_lt p (at + 1))
    where
      by_order : (p < at + 1) ⊎ (at + 1 ≤ p) → IsFixed story is_frozen p
      by_order (inl first) = let same : at ≡ p = omega (arith, above, first) in subst (IsFixed story is_frozen) same high
      by_order (inr second) = let same : at + 1 ≡ p = omega (arith, below, second) in subst (IsFixed story is_frozen) same low

  ends_here : at + 1 < length story.memory → 128 ≤ byte_at story.memory at → IsFixed story is_frozen at → IsFixed story is_frozen (at + 1) → HasFixedText story is_frozen at
  ends_here inside last high low = record {
    text = byte_at story.memory at ∷ byte_at story.memory (at + 1) ∷ [];
    found = text_ends story.memory at inside last;
    fixed = λ p within. both_fixed high low p within.0 within.1;
  }

  goes_on : at + 1 < length story.memory → byte_at story.memory at < 128 → IsFixed story is_frozen at → IsFixed story is_frozen (at + 1) → HasFixedText story is_frozen (at + 2) → HasFixedText story is_frozen at
  goes_on inside more high low next = record {
    text = byte_at story.memory at ∷ byte_at story.memory (at + 1) ∷ next.text;
    found = text_goes_on story.memory at inside more ∙ ap (option_map (λ text. byte_at story.memory at ∷ byte_at story.memory (at + 1) ∷ text)) next.found;
    fixed = λ p within. by_order p within.0 (let below = within.1 in omega (arith, below)) (cases_lt p (at + 2));
  }
    where
      by_order : (p : ℕ) → at ≤ p → p < at + (2 + length next.text) → (p < at + 2) ⊎ (at + 2 ≤ p) → IsFixed story is_frozen p
      by_order p above below (inl front) = both_fixed high low p above front
      by_order p above below (inr behind) = next.fixed p (behind, omega (arith, below))

  -- what such a text begins with
  pub record Begins : Type 0 where
    pub inside : at + 1 < length story.memory
    pub high : IsFixed story is_frozen at
    pub low : IsFixed story is_frozen (at + 1)
    pub rest : (128 ≤ byte_at story.memory at) ⊎ HasFixedText story is_frozen (at + 2)

  pub begins : HasFixedText story is_frozen at → Begins
  begins has = by_end (cases_lt (at + 1) (length story.memory))
    where
      of_text : (text : List ℕ) → has.text ≡ text → 2 ≤ length text → at + 1 < length story.memory → (128 ≤ byte_at story.memory at) ⊎ HasFixedText story is_frozen (at + 2) → Begins
      of_text text is long inside rest =
          let fixed : (p : ℕ) → IsWithin at (length text) p → IsFixed story is_frozen p = subst (λ (t : List ℕ). (p : ℕ) → IsWithin at (length t) p → IsFixed story is_frozen p) is has.fixed in
          record { inside = inside; high = fixed at (omega arith, omega (arith, long)); low = fixed (at + 1) (omega arith, omega (arith, long)); rest = rest }

      longer : (text : List ℕ) → has.text ≡ byte_at story.memory at ∷ byte_at story.memory (at + 1) ∷ text → (p : ℕ) → IsWithin (at + 2) (length text) p → IsFixed story is_frozen p
      longer text is p within =
          let below = within.1 in
          let above = within.0 in
          let inside : p < at + length (byte_at story.memory at ∷ byte_at story.memory (at + 1) ∷ text) = omega (arith, below) in
          subst (λ (t : List ℕ). p < at + length t → IsFixed story is_frozen p) is (λ few. has.fixed p (omega (arith, above), few)) inside

      by_rest : at + 1 < length story.memory → byte_at story.memory at < 128 → (rest : Option (List ℕ)) → text_at story.memory (at + 2) ≡ rest → Begins
      by_rest inside more None e = absurd (none_is_some (text_at story.memory at) has.text (text_goes_on story.memory at inside more ∙ ap (option_map (λ text. byte_at story.memory at ∷ byte_at story.memory (at + 1) ∷ text)) e) has.found)
      by_rest inside more (Some text) e =
          let is : has.text ≡ byte_at story.memory at ∷ byte_at story.memory (at + 1) ∷ text = same_Some _ _ (sym has.found ∙ text_goes_on story.memory at inside more ∙ ap (option_map (λ text. byte_at story.memory at ∷ byte_at story.memory (at + 1) ∷ text)) e) in
          of_text (byte_at story.memory at ∷ byte_at story.memory (at + 1) ∷ text) is (omega arith) inside (inr (record { text = text; found = e; fixed = longer text is }))

      by_word : at + 1 < length story.memory → (byte_at story.memory at < 128) ⊎ (128 ≤ byte_at story.memory at) → Begins
      by_word inside (inl more) = by_rest inside more (text_at story.memory (at + 2)) refl
      by_word inside (inr last) =
          let is : has.text ≡ byte_at story.memory at ∷ byte_at story.memory (at + 1) ∷ [] = same_Some _ _ (sym has.found ∙ text_ends story.memory at inside last) in
          of_text (byte_at story.memory at ∷ byte_at story.memory (at + 1) ∷ []) is (omega arith) inside (inl last)

      by_end : (at + 1 < length story.memory) ⊎ (length story.memory ≤ at + 1) → Begins
      by_end (inl inside) = by_word inside (cases_lt (byte_at story.memory at) 128)
      by_end (inr outside) = absurd (none_is_some (text_at story.memory at) has.text (no_text story.memory at outside) has.found)

-- ---- marks

module _ (told : FrozenStory) where
  -- a text at a place that no play changes
  abbrev pub Has : ℕ → Type 0
  Has p = HasFixedText told.story (frozen_by told.ranges) p

  pub begins_where : (p : ℕ) (behind : Bool) → IsTrue behind ↔ Has (p + 2) → IsTrue (begins_text told p behind) ↔ Has p
  begins_where p behind next = (λ e. there (and_parts inside_test rest_test e), λ has. back (begins told.story (frozen_by told.ranges) p has))
    where
      inside_test : Bool
      inside_test = nat_lt (p + 1) (length told.story.memory)

      fixed_test : Bool
      fixed_test = is_fixed told p && is_fixed told (p + 1)

      word_test : Bool
      word_test = nat_le 128 (byte_at told.story.memory p) || behind

      rest_test : Bool
      rest_test = fixed_test && word_test

      by_word : p + 1 < length told.story.memory → IsFixed told.story (frozen_by told.ranges) p → IsFixed told.story (frozen_by told.ranges) (p + 1) → (nat_le 128 (byte_at told.story.memory p) ≡ true) ⊎ (behind ≡ true) → Has p
      by_word inside high low (inl last) = ends_here told.story (frozen_by told.ranges) p inside (leb-true 128 (byte_at told.story.memory p) last) high low
      by_word inside high low (inr more) = by_byte (cases_lt (byte_at told.story.memory p) 128)
        where
          by_byte : (byte_at told.story.memory p < 128) ⊎ (128 ≤ byte_at told.story.memory p) → Has p
          by_byte (inl small) = goes_on told.story (frozen_by told.ranges) p inside small high low (next.0 more)
          by_byte (inr last) = ends_here told.story (frozen_by told.ranges) p inside last high low

      there : (inside_test ≡ true) × (rest_test ≡ true) → Has p
      there parts =
          let rest = and_parts fixed_test word_test parts.1 in
          let bytes = and_parts (is_fixed told p) (is_fixed told (p + 1)) rest.0 in
          by_word (ltb-true (p + 1) (length told.story.memory) parts.0) ((fixed_is told p).0 bytes.0) ((fixed_is told (p + 1)).0 bytes.1) (or_cases (nat_le 128 (byte_at told.story.memory p)) behind rest.1)

      of_word : (128 ≤ byte_at told.story.memory p) ⊎ Has (p + 2) → word_test ≡ true
      of_word (inl last) = or_left (nat_le 128 (byte_at told.story.memory p)) behind (le-leb 128 (byte_at told.story.memory p) last)
      of_word (inr has) = or_right (nat_le 128 (byte_at told.story.memory p)) behind (next.1 has)

      back : Begins told.story (frozen_by told.ranges) p → IsTrue (begins_text told p behind)
      back parts = and_from inside_test rest_test (lt-ltb (p + 1) (length told.story.memory) parts.inside) (and_from fixed_test word_test (and_from (is_fixed told p) (is_fixed told (p + 1)) ((fixed_is told p).1 parts.high) ((fixed_is told (p + 1)).1 parts.low)) (of_word parts.rest))

  -- marks tell of each place from one on, and there is none before it
  pub record AreMarkedFrom (from : ℕ) (marks : List ℕ) : Type 0 where
    pub each : (p : ℕ) → from ≤ p → IsTrue (is_marked marks p) ↔ Has p
    pub none : (p : ℕ) → p < from → is_marked marks p ≡ false

  not_marked : (marks : List ℕ) (p : ℕ) → is_marked marks p ≡ false → IsTrue (is_marked marks p) → ⊥
  not_marked marks p off on = let e = sym off ∙ on in cc

  pub none_marked : (marks : List ℕ) (at : ℕ) → at ≡ length told.story.memory → ((p : ℕ) → is_marked marks p ≡ false) → AreMarkedFrom at marks
  none_marked marks at end unmarked = record {
    each = λ p above. (λ e. absurd (not_marked marks p (unmarked p) e), λ has. absurd (let inside = (begins told.story (frozen_by told.ranges) p has).inside in omega (arith, above, end, inside)));
    none = λ p below. unmarked p;
  }

  pub one_more_mark : (marks next : List ℕ) (at before : ℕ) (behind mark : Bool) → before ≡ at + 1 → ((p : ℕ) → is_marked next p ≡ (is_marked marks p || (mark && (p == at)))) → behind ≡ is_marked marks (at + 2) → mark ≡ begins_text told at behind → AreMarkedFrom before marks → AreMarkedFrom at next
  one_more_mark marks next at before behind mark one more is_behind is so_far = record {
    each = λ p above. by_order p above (cases_lt at p);
    none = λ p below. elsewhere p (λ e. omega (arith, e, below)) ∙ so_far.none p (omega (arith, one, below));
  }
    where
      and_false : (b : Bool) → (b && false) ≡ false
      and_false true = refl
      and_false false = refl

      or_false : (b : Bool) → (b || false) ≡ b
      or_false true = refl
      or_false false = refl

      and_true : (b : Bool) → (b && true) ≡ b
      and_true true = refl
      and_true false = refl

      elsewhere : (p : ℕ) → (p ≡ at → ⊥) → is_marked next p ≡ is_marked marks p
      elsewhere p other = more p ∙ (let apart = ne_eqb p at other in let off = and_false mark in rw apart (rw off (or_false (is_marked marks p))))

      there : is_marked next at ≡ mark
      there = more at ∙ (let own = eq-eqb at at refl in let old = so_far.none at (omega (arith, one)) in rw (own, old) (and_true mark))

      here : IsTrue mark ↔ Has at
      here = subst (λ (b : Bool). IsTrue b ↔ Has at) (sym is) (begins_where at behind (subst (λ (b : Bool). IsTrue b ↔ Has (at + 2)) (sym is_behind) (so_far.each (at + 2) (omega (arith, one)))))

      by_order : (p : ℕ) → at ≤ p → (at < p) ⊎ (p ≤ at) → IsTrue (is_marked next p) ↔ Has p
      by_order p above (inl higher) = subst (λ (b : Bool). IsTrue b ↔ Has p) (sym (elsewhere p (λ e. omega (arith, e, higher)))) (so_far.each p (omega (arith, one, higher)))
      by_order p above (inr lower) =
          let same : at ≡ p = omega (arith, above, lower) in
          subst (λ (q : ℕ). IsTrue (is_marked next q) ↔ Has q) same (subst (λ (b : Bool). IsTrue b ↔ Has at) (sym there) here)

  pub all_marked : (marks : List ℕ) (at : ℕ) → at ≡ 0 → AreMarkedFrom at marks → AreTextMarks told marks
  all_marked marks at end so_far = record { each = λ p. so_far.each p (omega (arith, end)) }

  -- a block of marks is one of texts
  pub block_of_texts : (marks : List ℕ) (addressing : Addressing) (blocks : List Bool) (block : ℕ) → AreTextMarks told marks → AreMarkedBlocks marks addressing blocks → block < 256 → IsTrue (slice_index_or blocks block false) ↔ ((k : ℕ) → k < 256 → Has (place_of addressing (256 * block + k)))
  block_of_texts marks addressing blocks block marked are few = (
    λ yes k near. (marked.each (place_of addressing (256 * block + k))).0 ((are block few).0 yes k near),
    λ all. (are block few).1 (λ k near. (marked.each (place_of addressing (256 * block + k))).1 (all k near)),
  )

  -- the block of a word
  pub names_texts : (marks : List ℕ) (addressing here : Addressing) (blocks : List Bool) (word index : ℕ) → AreTextMarks told marks → AreMarkedBlocks marks here blocks → addressing ≡ here → index ≡ word / 256 → word < 65536 → IsTrue (slice_index_or blocks index false) ↔ ((k : ℕ) → k < 256 → Has (place_of addressing (256 * (word / 256) + k)))
  names_texts marks addressing here blocks word index marked are is at low =
      let few : word / 256 < 256 = omega (arith, low) in
      subst (λ (i : ℕ). IsTrue (slice_index_or blocks i false) ↔ ((k : ℕ) → k < 256 → Has (place_of addressing (256 * (word / 256) + k)))) (sym at)
      (subst (λ (a : Addressing). IsTrue (slice_index_or blocks (word / 256) false) ↔ ((k : ℕ) → k < 256 → Has (place_of a (256 * (word / 256) + k)))) (sym is) (block_of_texts marks here blocks (word / 256) marked are few))

-- ---- each word of a set

module _ {V : Type 0} (o : SetOperations V) (set : V) (P : ℕ → Type 0) where
  -- of all below the next it holds
  pub record SoFar (least : Option ℕ) : Type 0 where
    pub before : (x : ℕ) → In o set x → IfSome least (λ w. x < w) → P x
    pub here : IfSome least (λ w. In o set w)

  -- the least from a number on is the next, where it holds of all below the number
  next_of : (from : ℕ) (least : Option ℕ) → ((x : ℕ) → In o set x → x < from → P x) → IsLeastFrom o set from least → SoFar least
  next_of from None below none = record { before = λ x inside t. below x inside (none x inside); here = tt }
  next_of from (Some w) below least = record {
    before = λ x inside less. by_order x inside less (cases_lt x from);
    here = least.0;
  }
    where
      by_order : (x : ℕ) → In o set x → x < w → (x < from) ⊎ (from ≤ x) → P x
      by_order x inside less (inl low) = below x inside low
      by_order x inside less (inr high) = absurd (let above = least.2 x inside high in omega (arith, above, less))

  pub first_word : (least : Option ℕ) → IsLeastFrom o set 0 least → SoFar least
  first_word least is = next_of 0 least (λ x inside less. absurd (omega (arith, less))) is

  pub next_word : (w run : ℕ) (least : Option ℕ) → SoFar (Some w) → ((k : ℕ) → k < run → P (w + k)) → IsLeastFrom o set (w + run) least → SoFar least
  next_word w run least so_far each is = next_of (w + run) least (λ x inside less. by_order x inside less (cases_lt x w)) is
    where
      by_order : (x : ℕ) → In o set x → x < w + run → (x < w) ⊎ (w ≤ x) → P x
      by_order x inside less (inl low) = so_far.before x inside low
      by_order x inside less (inr high) = let same : w + (x - w) ≡ x = omega (arith, high) in subst P same (each (x - w) (omega (arith, less, high)))

-- how many words may come
abbrev pub words_left : Option ℕ → ℕ
words_left None = 0
words_left (Some w) = 65536 - w

pub fewer_left : {V : Type 0} (o : SetOperations V) (set : V) (w run : ℕ) (least : Option ℕ) → In o set w → (run ≡ 0 → ⊥) → IsLeastFrom o set (w + run) least → words_left least < words_left (Some w)
fewer_left o set w run None inside some none = let word = inside.word in omega (arith, word)
fewer_left o set w zero (Some n) inside some least = absurd (some refl)
fewer_left o set w (suc run) (Some n) inside some least = let word = inside.word in let above = least.1 in omega (arith, word, above)
