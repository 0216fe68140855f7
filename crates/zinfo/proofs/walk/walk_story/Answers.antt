use Rattle.std.proofs.Common.{◌≡◌, rules, subst}
use Rattle.std.specs.Prelude.{List, ℕ, pos}
use Rattle.std.proofs.lemmas.List.Elements.{Contains-push}
use Rattle.zstory.specs.LoadedStory.{first_instruction}
use Rattle.zinfo.specs.Walked.{Found, IsFollowed, IsOnWay, with_waiting}
use Rattle.zinfo.proofs.Followed.{complete_on, has_without, sound_without}
use Rattle.zinfo.proofs.walk.walk_story.Goals as goal

pub loop-address-preserved : goal.loop-address-preserved
loop-address-preserved c =
    let story = c.args.story.now in
    let f = c.next.new.self in
    let address = c.in-Some.address in
    let way : IsOnWay story (with_waiting f address) = subst (λ (w : Found). IsOnWay story w) c.in-Some.ensures.some c.loop-address.invariant in
    let same : c.args.standing.now ≡ story.memory = search rules in
    let grows = c.in_ok-visit.ensures.grows in
    let visited : IsFollowed story.memory c.visit.new.self (pos address) = subst (λ (m : List ℕ). IsFollowed m c.visit.new.self (pos address)) same c.in_ok-visit.ensures.followed in
    record {
      sound = c.in_ok-visit.ensures.sound story same (way.sound.waiting address (Contains-push f.waiting address)) (sound_without story f address way.sound);
      begun = grows.still (pos (first_instruction story)) (has_without f address (pos (first_instruction story)) way.begun);
      complete = complete_on story.memory f c.visit.new.self address way.complete grows visited;
    }
