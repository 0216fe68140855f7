-- The state in which a story opens is described.
use Rattle.std.proofs.Common.{Bool, ℕ, [], refl, sym, subst}
use Rattle.std.specs.List.{AllZip}
use Rattle.zstory.specs.LoadedStory.{LoadedStory, first_instruction}
use Rattle.zdomain.specs.Domain.{SetOperations, In}
use Rattle.zstate.specs.State.{opening}
use Rattle.zstate.proofs.Opens.{opening_is_state}
use Rattle.zrule.specs.Claims.{Claims}
use Rattle.zrule.specs.Rules.{SupportsWhere}
use Rattle.zrule.specs.Described.{Described, IsLoadedStory}
use Rattle.zrule.proofs.Told.{implied_hold}

pub opening_described : {V : Type 0} (o : SetOperations V) (claims : Claims V) (story : LoadedStory) (limit : ℕ) → IsLoadedStory story → {marked : ℕ → Bool} → SupportsWhere o claims marked story → Described o claims limit story (opening story)
opening_described o claims story limit loaded {marked} supports =
    let first = supports.first in
    record {
      is_state = opening_is_state limit story loaded.sound loaded.counted;
      at = first_instruction story;
      place = refl;
      entry = first.entry;
      listed = first.listed;
      fits = record {
        in_locals = subst (λ xs. AllZip (In o) xs []) (sym first.no_locals) tt;
        in_slots = subst (λ xs. AllZip (In o) xs []) (sym first.no_slots) tt;
      };
      callers = first.main;
      memory = record { long = refl; values = supports.values; tree = supports.tree; fixed = λ p h. refl };
      facts = implied_hold o story claims.globals (claims.facts (first_instruction story)) story.memory supports.values first.implied;
    }
