use Rattle.std.proofs.Common.{refl, None, ◌∙◌}
use Rattle.zdomain.proofs.Listing.{same_list}
use Rattle.zdomain.proofs.values_domain.packed.Goals as goal

pub returns-in-Some : goal.returns-in-Some
returns-in-Some c = c.list_or.ensures ∙ same_list _ _ _ _ (rw (c.between-other.ensures, c.turned.ensures, c.turned-2.ensures, c.least.ensures, c.greatest.ensures) refl) c.in-Some.ensures.words

pub returns-in-None : goal.returns-in-None
returns-in-None c = same_list _ _ _ None (rw (c.between-other.ensures, c.turned.ensures, c.turned-2.ensures, c.least.ensures, c.greatest.ensures) refl) c.in-None.ensures.words
