-- What a move in the tree leaves.
use Rattle.std.proofs.Common.{◌≡◌, ◌≢◌, ◌⊎◌, inl, inr, ℕ, zero, suc, ◌+◌, ◌<◌, ◌≤◌, Bool, true, false, nat_lt, List, Option, Some, None, Result, Ok, Err, refl, ap, sym, ◌∙◌, arith, lit<, lit≤}
use Rattle.std.specs.Prelude.{◌||◌, ◌==◌, if◌then◌else◌, IfSome, IfOk}
use Rattle.std.specs.List.{find}
use Rattle.std.specs.Result.{IsOkAnd}
use Rattle.std.proofs.lemmas.Bool.{ltb-true, ltb-false}
use Rattle.zstory.specs.Objects.{object_place}
use Rattle.std.proofs.lemmas.Bool.Decides.{eqb_tells}
use Rattle.zstory.specs.Bytes.{AreBytes, byte_at}
use Rattle.zstory.specs.Header.{object_table}
use Rattle.zobj.specs.declared.error.ObjectError.{ObjectError}
use Rattle.zobj.specs.declared.error.ObjectError.TheVariants.{AbsentObject}
use Rattle.zobj.specs.declared.tree.Link.{Link}
use Rattle.zobj.specs.declared.tree.Link.TheVariants.{Parent, Sibling, Child}
use Rattle.zobj.specs.declared.moves.Lead.{Lead}
use Rattle.zobj.specs.Entries.{HasTable, IsLinkByte, entry_byte, with_entry_byte}
use Rattle.zobj.specs.Tree.{link_byte, linked, parent, sibling, child, with_link, IsTree}
use Rattle.zobj.specs.Moves.{row, ends_search, elder, lead_of, IsLead, on_ok, led_past, alone, unlinked, first_under, inserted}
use Rattle.zobj.specs.Kept.{DiffersOnly}
use Rattle.zobj.proofs.Tables.{table_kept, all_kept, entry_there}
use Rattle.zobj.proofs.Bytes.{bytes_entry, entry_byte_same, entry_byte_other, differs_there}

link_low : (link : Link) → 4 ≤ link_byte link
link_low Parent = lit≤ tt
link_low Sibling = lit≤ tt
link_low Child = lit≤ tt

link_high : (link : Link) → link_byte link < 4 + 3
link_high Parent = lit< tt
link_high Sibling = lit< tt
link_high Child = lit< tt

-- ---- one link

-- a memory after some links were led elsewhere
pub record IsMoved (objects : ℕ) (memory after : List ℕ) : Type 0 where
  pub table : HasTable after objects
  pub place : object_table after ≡ object_table memory
  pub differs : DiffersOnly (IsLinkByte memory objects) memory after

pub moved_none : (objects : ℕ) (memory : List ℕ) → HasTable memory objects → IsMoved objects memory memory
moved_none objects memory has = record { table = has; place = refl; differs = record { size = refl; rest = λ p. inl refl } }

pub moved_more : (objects : ℕ) (memory now : List ℕ) → IsMoved objects memory now → (link : Link) (object to : ℕ) → 1 ≤ object → object ≤ objects → IsMoved objects memory (with_link link object to now)
moved_more objects memory now is link object to least most =
    let one = differs_there now objects 4 3 object (link_byte link) to is.table least most (link_low link) (link_high link) in
    record {
      table = all_kept now object (link_byte link) to objects is.table;
      place = table_kept now object (link_byte link) to is.table.above ∙ is.place;
      differs = record {
        size = one.size ∙ is.differs.size;
        rest = λ p. elim (one.rest p) [
          | inr there ↦ inr (record { object = there.object; least = there.least; most = there.most; from = omega (arith, there.from, is.place); below = omega (arith, there.below, is.place) })
          | inl e ↦ elim (is.differs.rest p) [ inl f ↦ inl (e ∙ f) | inr before ↦ inr before ]
        ];
      };
    }

pub tree_kept : (objects : ℕ) (memory : List ℕ) → HasTable memory objects → IsTree memory objects → (link : Link) (object to : ℕ) → 1 ≤ object → object ≤ objects → to ≤ objects → IsTree (with_link link object to memory) objects
tree_kept objects memory has tree link object to least most small = record { small = λ another other first last. by another other first last (eqb_tells other object) (eqb_tells (link_byte another) (link_byte link)) }
  where
    by : (another : Link) (other : ℕ) → 1 ≤ other → other ≤ objects → ((other == object) ≡ true) × (other ≡ object) ⊎ ((other == object) ≡ false) × (other ≢ object) → ((link_byte another == link_byte link) ≡ true) × (link_byte another ≡ link_byte link) ⊎ ((link_byte another == link_byte link) ≡ false) × (link_byte another ≢ link_byte link) → linked another (with_link link object to memory) other ≤ objects
    by another other first last (inl o) (inl k) =
        let there : entry_byte (with_entry_byte object (link_byte link) to memory) other (link_byte another) ≡ to = ap (λ (n : ℕ). entry_byte (with_entry_byte object (link_byte link) to memory) n (link_byte another)) o.1 ∙ ap (entry_byte (with_entry_byte object (link_byte link) to memory) object) k.1 ∙ entry_byte_same memory object (link_byte link) to (entry_there memory objects object has least most) (omega (arith, link_high link)) in
        omega (arith, there, small)
    by another other first last (inr o) k =
        let there = entry_byte_other memory object (link_byte link) to other (link_byte another) has.above least first (omega (arith, link_high link)) (omega (arith, link_high another)) (λ e f. o.1 e) in
        omega (arith, there, tree.small another other first last)
    by another other first last (inl o) (inr k) =
        let there = entry_byte_other memory object (link_byte link) to other (link_byte another) has.above least first (omega (arith, link_high link)) (omega (arith, link_high another)) (λ e f. k.1 f) in
        omega (arith, there, tree.small another other first last)

-- ---- what leads to an object

not_zero : (n : ℕ) → (n == 0) ≡ false → 1 ≤ n
not_zero n e = elim (eqb_tells n 0) [ inl z ↦ absurd (let h : true ≡ false = sym z.0 ∙ e in cc) | inr z ↦ omega (arith, z.1) ]

module _ (objects : ℕ) (memory : List ℕ) (object : ℕ) where
  elder_within : (most number : ℕ) → IfOk (elder objects (find (ends_search objects memory object) (row most memory number))) (λ lead. IfSome lead (IsLead objects))
  unfolding row
  elder_within zero number = tt
  elder_within (suc most) zero = tt
  elder_within (suc most) (suc n) = by (nat_lt objects (suc n)) (sibling memory (suc n) == object) refl (elder_within most (sibling memory (suc n)))
    where
      by : (above leads : Bool) → nat_lt objects (suc n) ≡ above → IfOk (elder objects (find (ends_search objects memory object) (row most memory (sibling memory (suc n))))) (λ lead. IfSome lead (IsLead objects))
          → IfOk (elder objects (if above || leads then Some (suc n) else find (ends_search objects memory object) (row most memory (sibling memory (suc n))))) (λ lead. IfSome lead (IsLead objects))
      by true leads e rest = rw e tt
      by false true e rest = rw e (record { least = omega arith; most = ltb-false objects (suc n) e })
      by false false e rest = rest

  elder_fine : IsTree memory objects → (most number : ℕ) → number ≤ objects → IsOkAnd (elder objects (find (ends_search objects memory object) (row most memory number))) (λ lead. IfSome lead (IsLead objects))
  unfolding row
  elder_fine tree zero number small = tt
  elder_fine tree (suc most) zero small = tt
  elder_fine tree (suc most) (suc n) small = by (nat_lt objects (suc n)) (sibling memory (suc n) == object) refl (elder_fine tree most (sibling memory (suc n)) (tree.small Sibling (suc n) (omega arith) small))
    where
      by : (above leads : Bool) → nat_lt objects (suc n) ≡ above → IsOkAnd (elder objects (find (ends_search objects memory object) (row most memory (sibling memory (suc n))))) (λ lead. IfSome lead (IsLead objects))
          → IsOkAnd (elder objects (if above || leads then Some (suc n) else find (ends_search objects memory object) (row most memory (sibling memory (suc n))))) (λ lead. IfSome lead (IsLead objects))
      by true leads e rest = absurd (omega (arith, ltb-true objects (suc n) e, small))
      by false true e rest = rw e (record { least = omega arith; most = ltb-false objects (suc n) e })
      by false false e rest = rest

  lead_within : IfOk (lead_of objects memory object) (λ lead. IfSome lead (IsLead objects))
  lead_within = by (parent memory object == 0) refl (nat_lt objects (parent memory object)) refl (child memory (parent memory object) == object)
    where
      by : (none : Bool) → (parent memory object == 0) ≡ none → (above : Bool) → nat_lt objects (parent memory object) ≡ above → (first : Bool)
          → IfOk (if none then Ok None else (if above then Err AbsentObject else (if first then Ok (Some (record { link = Child; object = parent memory object })) else elder objects (find (ends_search objects memory object) (row objects memory (child memory (parent memory object))))))) (λ lead. IfSome lead (IsLead objects))
      by true z above e first = tt
      by false z true e first = tt
      by false z false e true = record { least = not_zero (parent memory object) z; most = ltb-false objects (parent memory object) e }
      by false z false e false = elder_within objects (child memory (parent memory object))

  lead_fine : IsTree memory objects → 1 ≤ object → object ≤ objects → IsOkAnd (lead_of objects memory object) (λ lead. IfSome lead (IsLead objects))
  lead_fine tree least most = by (parent memory object == 0) refl (nat_lt objects (parent memory object)) refl (child memory (parent memory object) == object)
    where
      by : (none : Bool) → (parent memory object == 0) ≡ none → (above : Bool) → nat_lt objects (parent memory object) ≡ above → (first : Bool)
          → IsOkAnd (if none then Ok None else (if above then Err AbsentObject else (if first then Ok (Some (record { link = Child; object = parent memory object })) else elder objects (find (ends_search objects memory object) (row objects memory (child memory (parent memory object))))))) (λ lead. IfSome lead (IsLead objects))
      by true z above e first = tt
      by false z true e first = absurd (omega (arith, ltb-true objects (parent memory object) e, tree.small Parent object least most))
      by false z false e true = record { least = not_zero (parent memory object) z; most = ltb-false objects (parent memory object) e }
      by false z false e false = elder_fine tree objects (child memory (parent memory object)) (tree.small Child (parent memory object) (not_zero (parent memory object) z) (ltb-false objects (parent memory object) e))

-- ---- moves

module _ (objects : ℕ) (memory : List ℕ) (has : HasTable memory objects) (object : ℕ) (least : 1 ≤ object) (most : object ≤ objects) where
  led_moved : (lead : Option Lead) → IfSome lead (IsLead objects) → IsMoved objects memory (alone object (led_past object lead memory))
  led_moved None within = moved_more objects memory _ (moved_more objects memory memory (moved_none objects memory has) Parent object 0 least most) Sibling object 0 least most
  led_moved (Some lead) within = moved_more objects memory _ (moved_more objects memory _ (moved_more objects memory memory (moved_none objects memory has) lead.link lead.object (sibling memory object) within.least within.most) Parent object 0 least most) Sibling object 0 least most

  unlinked_moved : IfOk (unlinked objects object memory) (IsMoved objects memory)
  unlinked_moved = by (lead_of objects memory object) (lead_within objects memory object)
    where
      by : (r : Result (Option Lead) ObjectError) → IfOk r (λ lead. IfSome lead (IsLead objects)) → IfOk (on_ok (λ lead. alone object (led_past object lead memory)) r) (IsMoved objects memory)
      by (Ok lead) within = led_moved lead within
      by (Err e) within = tt

  led_tree : IsTree memory objects → (lead : Option Lead) → IfSome lead (IsLead objects) → IsTree (alone object (led_past object lead memory)) objects
  led_tree tree None within =
      let first = tree_kept objects memory has tree Parent object 0 least most (omega arith) in
      tree_kept objects _ (all_kept memory object 4 0 objects has) first Sibling object 0 least most (omega arith)
  led_tree tree (Some lead) within =
      let past = tree_kept objects memory has tree lead.link lead.object (sibling memory object) within.least within.most (tree.small Sibling object least most) in
      let has_past = all_kept memory lead.object (link_byte lead.link) (sibling memory object) objects has in
      let first = tree_kept objects _ has_past past Parent object 0 least most (omega arith) in
      tree_kept objects _ (all_kept _ object 4 0 objects has_past) first Sibling object 0 least most (omega arith)

  -- it is done, and moved
  pub unlinked_tree : IsTree memory objects → IsOkAnd (unlinked objects object memory) (λ after. IsMoved objects memory after × IsTree after objects)
  unlinked_tree tree = by (lead_of objects memory object) (lead_fine objects memory object tree least most)
    where
      by : (r : Result (Option Lead) ObjectError) → IsOkAnd r (λ lead. IfSome lead (IsLead objects)) → IsOkAnd (on_ok (λ lead. alone object (led_past object lead memory)) r) (λ after. IsMoved objects memory after × IsTree after objects)
      by (Ok lead) within = (led_moved lead within, led_tree tree lead within)
      by (Err e) within = absurd within

  module _ (under : ℕ) (first : 1 ≤ under) (last : under ≤ objects) where
    under_moved : (now : List ℕ) → IsMoved objects memory now → IsMoved objects memory (first_under object under now)
    under_moved now is = moved_more objects memory _ (moved_more objects memory _ (moved_more objects memory now is Sibling object (child now under) least most) Child under object first last) Parent object under least most

    under_tree : (now : List ℕ) → HasTable now objects → IsTree now objects → IsTree (first_under object under now) objects
    under_tree now there tree =
        let one = tree_kept objects now there tree Sibling object (child now under) least most (tree.small Child under first last) in
        let there_one = all_kept now object 5 (child now under) objects there in
        let two = tree_kept objects _ there_one one Child under object first last most in
        tree_kept objects _ (all_kept _ under 6 object objects there_one) two Parent object under least most last

    inserted_moved : IfOk (inserted objects object under memory) (IsMoved objects memory)
    inserted_moved = by (unlinked objects object memory) unlinked_moved
      where
        by : (r : Result (List ℕ) ObjectError) → IfOk r (IsMoved objects memory) → IfOk (on_ok (first_under object under) r) (IsMoved objects memory)
        by (Ok now) is = under_moved now is
        by (Err e) is = tt

    pub inserted_tree : IsTree memory objects → IsOkAnd (inserted objects object under memory) (λ after. IsTree after objects)
    inserted_tree tree = by (unlinked objects object memory) (unlinked_tree tree)
      where
        by : (r : Result (List ℕ) ObjectError) → IsOkAnd r (λ after. IsMoved objects memory after × IsTree after objects) → IsOkAnd (on_ok (first_under object under) r) (λ after. IsTree after objects)
        by (Ok now) is = under_tree now is.0.table is.1
        by (Err e) is = absurd is

    pub inserted_only : IfOk (inserted objects object under memory) (DiffersOnly (IsLinkByte memory objects) memory)
    inserted_only = by (inserted objects object under memory) inserted_moved
      where
        by : (r : Result (List ℕ) ObjectError) → IfOk r (IsMoved objects memory) → IfOk r (DiffersOnly (IsLinkByte memory objects) memory)
        by (Ok now) is = is.differs
        by (Err e) is = tt

  pub unlinked_only : IfOk (unlinked objects object memory) (DiffersOnly (IsLinkByte memory objects) memory)
  unlinked_only = by (unlinked objects object memory) unlinked_moved
    where
      by : (r : Result (List ℕ) ObjectError) → IfOk r (IsMoved objects memory) → IfOk r (DiffersOnly (IsLinkByte memory objects) memory)
      by (Ok now) is = is.differs
      by (Err e) is = tt

  pub unlinked_stays : IsTree memory objects → IsOkAnd (unlinked objects object memory) (λ after. IsTree after objects)
  unlinked_stays tree = by (unlinked objects object memory) (unlinked_tree tree)
    where
      by : (r : Result (List ℕ) ObjectError) → IsOkAnd r (λ after. IsMoved objects memory after × IsTree after objects) → IsOkAnd r (λ after. IsTree after objects)
      by (Ok now) is = is.1
      by (Err e) is = absurd is

-- ---- bytes

link_byte_is : (memory : List ℕ) → AreBytes memory → (link : Link) (object : ℕ) → linked link memory object < 256
link_byte_is memory are link object = by (object == 0)
  where
    by : (b : Bool) → (if b then 0 else byte_at memory (object_place memory object + link_byte link)) < 256
    by true = lit< tt
    by false = are (object_place memory object + link_byte link)

pub unlinked_bytes : (memory : List ℕ) (objects object : ℕ) → AreBytes memory → IfOk (unlinked objects object memory) AreBytes
unlinked_bytes memory objects object are = by (lead_of objects memory object)
  where
    past : (lead : Option Lead) → AreBytes (led_past object lead memory)
    past None = are
    past (Some lead) = bytes_entry memory lead.object (link_byte lead.link) (sibling memory object) are (link_byte_is memory are Sibling object)

    by : (r : Result (Option Lead) ObjectError) → IfOk (on_ok (λ lead. alone object (led_past object lead memory)) r) AreBytes
    by (Ok lead) = bytes_entry (with_link Parent object 0 (led_past object lead memory)) object 5 0 (bytes_entry (led_past object lead memory) object 4 0 (past lead) (lit< tt)) (lit< tt)
    by (Err e) = tt

pub inserted_bytes : (memory : List ℕ) (objects object under : ℕ) → AreBytes memory → object < 256 → under < 256 → IfOk (inserted objects object under memory) AreBytes
inserted_bytes memory objects object under are small few = by (unlinked objects object memory) (unlinked_bytes memory objects object are)
  where
    by : (r : Result (List ℕ) ObjectError) → IfOk r AreBytes → IfOk (on_ok (first_under object under) r) AreBytes
    by (Ok now) is =
        let one = bytes_entry now object 5 (child now under) is (link_byte_is now is Child under) in
        let two = bytes_entry (with_link Sibling object (child now under) now) under 6 object one small in
        bytes_entry (with_link Child under object (with_link Sibling object (child now under) now)) object 4 under two few
    by (Err e) is = tt
