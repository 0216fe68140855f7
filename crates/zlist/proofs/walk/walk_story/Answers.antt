use Rattle.std.proofs.Common.{◌≡◌, rules, subst, sym, length, w32}
use Rattle.std.specs.Prelude.{ℕ, ℤ, List, Ok, pos}
use Rattle.std.proofs.lemmas.List.Elements.{Contains-push}
use Rattle.std.proofs.lemmas.Int.{to_z-of_z}
use Rattle.zcode.specs.Instruction.{Instruction}
use Rattle.zlist.specs.declared.owner.Label.TheVariants.{One}
use Rattle.zlist.specs.declared.owner.Owner.TheVariants.{Main}
use Rattle.zstory.specs.LoadedStory.{first_instruction}
use Rattle.zlist.specs.Labels.{Found, Has, IsFollowed, IsOnWay, IsSo, label_at, with_waiting}
use Rattle.zlist.specs.Listed.{spelled}
use Rattle.zlist.proofs.Marking.{complete_begun, complete_on, has_on, has_without, sound_without}
use Rattle.zlist.proofs.Reaching.{so_first}
use Rattle.zlist.proofs.walk.walk_story.Goals as goal

pub loop-address-init : goal.loop-address-init
loop-address-init c =
    let story = c.args.story.now in
    let size : c.length.result ≡ length story.memory = search rules in
    let blank = c.in_ok-walk.ensures story size in
    let so = so_first story in
    let at : c.first_place.result ≡ pos (first_instruction story) = search rules in
    let here : IsSo story (One Main) c.first_place.result = subst (λ (p : ℤ). IsSo story (One Main) p) (sym at) so in
    let marked : Has c.mark.new.self (One Main) c.first_place.result = subst (λ (p : ℤ). Has c.mark.new.self (One Main) p) (to_z-of_z w32 c.first_place.result (search rules)) c.in_ok-mark.ensures.has in
    let begun = subst (λ (p : ℤ). Has c.mark.new.self (One Main) p) at marked in
    record {
      sound = c.in_ok-mark.ensures.sound story (λ e. cc) (search (rules, here)) blank.0;
      begun = begun;
      complete = complete_begun story.memory c.in_ok-walk.walk c.mark.new.self blank.2 c.in_ok-mark.ensures.grows;
    }

pub loop-address-preserved : goal.loop-address-preserved
loop-address-preserved c =
    let story = c.args.story.now in
    let f = c.next.new.self in
    let address = c.in-Some.address in
    let way : IsOnWay story (with_waiting f address) = subst (λ (w : Found). IsOnWay story w) c.in-Some.ensures.some c.loop-address.invariant in
    let same : c.in_ok-standing.standing ≡ story.memory = search rules in
    let grows = c.in_ok-visit.ensures.grows in
    let visited : (i : Instruction) → spelled story.memory (pos address) ≡ Ok i → IsFollowed story.memory c.visit.new.self (label_at f address) (pos address) i =
    subst (λ (m : List ℕ). (i : Instruction) → spelled m (pos address) ≡ Ok i → IsFollowed m c.visit.new.self (label_at f address) (pos address) i) same c.in_ok-visit.ensures.followed in
    record {
      sound = c.in_ok-visit.ensures.sound story same (way.sound.waiting address (Contains-push f.waiting address)) (sound_without story f address way.sound);
      begun = has_on f c.visit.new.self (One Main) (pos (first_instruction story)) grows (has_without f address (One Main) (pos (first_instruction story)) way.begun);
      complete = complete_on story.memory f c.visit.new.self address way.complete grows visited;
    }
