-- What is written to a screen with a line at the top.
use Rattle.std.proofs.Common.{◌≡◌, ℕ, true, false, inr, List, refl, ◌∙◌, subst}
use Rattle.std.specs.Prelude.{Option, Result, Ok, Err, OnErr, OnOk}
use Rattle.std.specs.Io.KnownBytes.{Appends, Keeps}
use Rattle.zfault.specs.Devices.{AppendsBeginning}
use Rattle.zfault.proofs.DeviceLemmas.{AppendsBeginning-after, AppendsBeginning-whole}
use Rattle.zfront.specs.Headings.{ClosesShort, Draws, DrawsShort, FlushesTopShort, Top, TopsNone, closing, closing_of, drawing, opened_so, opening, opening_of}

pub ok_map : {T E : Type 0} {P Q : Type 0} (r : Result T E) → (P → Q) → OnOk r P → OnOk r Q
ok_map (Ok x) f p = f p
ok_map (Err x) f p = tt

pub err_map : {T E : Type 0} {P Q : Type 0} (r : Result T E) → (P → Q) → OnErr r P → OnErr r Q
err_map (Ok x) f p = tt
err_map (Err x) f p = f p

module _ (a b : Option (List ℕ)) where
  pub draws : (name right : List ℕ) (width : ℕ) → Appends a b (drawing name right width) → Draws a b width
  draws name right width grown = record { drawn = drawing name right width; may = inr (record { name = name; right = right; line = refl }); grown = grown }

  pub draws_short : (name right : List ℕ) (width : ℕ) → AppendsBeginning a b (drawing name right width) → DrawsShort a b width
  draws_short name right width begun = record { drawn = drawing name right width; may = inr (record { name = name; right = right; line = refl }); begun = begun }

  pub opening_whole : (top : Top) → top.opened ≡ false → Appends a b opening → Appends a b (opening_of top)
  opening_whole top closed grown = rw closed grown

  pub opening_begun : (top : Top) → top.opened ≡ false → AppendsBeginning a b opening → AppendsBeginning a b (opening_of top)
  opening_begun top closed begun = rw closed begun

  pub closing_whole : (top : Top) → top.opened ≡ true → Appends a b closing → Appends a b (closing_of top)
  closing_whole top opened grown = rw opened grown

  pub closing_begun : (top : Top) → top.opened ≡ true → AppendsBeginning a b closing → AppendsBeginning a b (closing_of top)
  closing_begun top opened begun = rw opened begun

-- it was opened, and what came then failed
pub opened_only : (a b c : Option (List ℕ)) (before after : Top) → Appends a b (opening_of before) → Keeps b c → after ≡ opened_so before true → TopsNone a c before after
opened_only a b c before after grown kept opened = record { begun = AppendsBeginning-whole a b c (opening_of before) grown kept; opened = inr opened }

pub closed_only : (a b c : Option (List ℕ)) (before after : Top) → Appends a b (closing_of before) → Keeps b c → after ≡ opened_so before false → ClosesShort a c before after
closed_only a b c before after grown kept closed = record { begun = AppendsBeginning-whole a b c (closing_of before) grown kept; closed = inr closed }

pub drawn_short : (a b c : Option (List ℕ)) (before mid after : Top) → Appends a b (opening_of before) → mid ≡ opened_so before true → after ≡ mid → DrawsShort b c mid.width → FlushesTopShort a c before after
drawn_short a b c before mid after grown opened same short =
    let there : DrawsShort b c before.width = subst (λ (top : Top). DrawsShort b c top.width) opened short in
    record { drawn = there.drawn; may = there.may; begun = AppendsBeginning-after a b c (opening_of before) there.drawn grown there.begun; opened = inr (same ∙ opened) }

pub drawn_only : (a b c d : Option (List ℕ)) (before mid after : Top) → Appends a b (opening_of before) → mid ≡ opened_so before true → after ≡ mid → Draws b c mid.width → Keeps c d → FlushesTopShort a d before after
drawn_only a b c d before mid after grown opened same draws kept =
    let there : Draws b c before.width = subst (λ (top : Top). Draws b c top.width) opened draws in
    record { drawn = there.drawn; may = there.may; begun = AppendsBeginning-after a b d (opening_of before) there.drawn grown (AppendsBeginning-whole b c d there.drawn there.grown kept); opened = inr (same ∙ opened) }
