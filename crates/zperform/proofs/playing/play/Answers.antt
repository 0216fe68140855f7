use Rattle.std.proofs.Common.{◌≡◌, ◌∙◌, ℕ, List, None, ap, refl, rules, subst}
use Rattle.std.specs.Prelude.{Option}
use Rattle.zperform.specs.Accepting.{IsAcceptedStory}
use Rattle.zperform.specs.Beside.{Absent, CountsBeside, IsFoundBeside, SaysUnused, Unused, Used}
use Rattle.zperform.specs.Devices.{held, seen}
use Rattle.zperform.specs.Informing.{name_of_certificate}
use Rattle.zperform.specs.Played.{file_of}
use Rattle.zperform.specs.declared.beside.CertificateBeside.{CertificateBeside}
use Rattle.zperform.specs.declared.blame.Blame.{Blame}
use Rattle.zperform.proofs.BesideLemmas.{plays_absent, plays_unused, plays_used, spared_always, uncounted, unused_before}
use Rattle.zperform.proofs.playing.play.Goals as goal

pub returns-in-Accepted-clause-comes : goal.returns-in-Accepted-clause-comes
returns-in-Accepted-clause-comes g c =
    let of = held g.F.Files.known g.F.Files.failures g.F.Files.can_fail g.F.Files.blamed in
    let from = of c.args.devices.now.files.now in
    let mid = of c.read_file.new.files in
    let later = of c.play_accepted.new.devices.files.now in
    let name = c.args.name.now in
    let read = c.in_ok-file.ensures.files in
    let looked = c.in_ok-accepted.ensures in
    let found = subst (λ (b : CertificateBeside). IsFoundBeside mid name (g.F.Files.blamed c.look_beside.new.files) b) c.in-Accepted.is looked.found in
    let accepted = subst (λ (known : List ℕ → Option (List ℕ)). IsAcceptedStory (known name) (known (name_of_certificate name)) c.in-Accepted.accepted) read.kept found in
    let counts = subst (λ (b : CertificateBeside). CountsBeside mid.failures (g.F.Files.failures c.look_beside.new.files) b) c.in-Accepted.is looked.counts in
    let came = c.play_accepted.ensures.comes (from.known name) (from.known (name_of_certificate name)) accepted in (
      Used,
      came.0,
      plays_used from later name (file_of c.args.asked) c.args.asked.manner _ _ came.0 _ _ c.in-Accepted.accepted accepted came.1 (λ none. ap g.F.Files.failures (c.play_accepted.ensures.unsaved none) ∙ counts ∙ read.blamed.1 (λ e. cc)),
      (_, refl, came.2),
    )

pub returns-in-Accepted-clause-files : goal.returns-in-Accepted-clause-files
returns-in-Accepted-clause-files g c = record {
  unread = search rules;
  unfailed = λ none. absurd (spared_always (file_of c.args.asked) c.args.name.now none);
  kept = search rules;
  spared = λ other another. c.play_accepted.ensures.spared other another ∙ ap (λ (known : List ℕ → Option (List ℕ)). known other) (c.in_ok-accepted.ensures.kept ∙ c.in_ok-file.ensures.files.kept);
}

pub returns-in-Absent-clause-comes : goal.returns-in-Absent-clause-comes
returns-in-Absent-clause-comes g c =
    let of = held g.F.Files.known g.F.Files.failures g.F.Files.can_fail g.F.Files.blamed in
    let from = of c.args.devices.now.files.now in
    let mid = of c.read_file.new.files in
    let later = of c.play_file.new.devices.files.now in
    let name = c.args.name.now in
    let read = c.in_ok-file.ensures in
    let looked = c.in_ok-accepted.ensures in
    let found = subst (λ (b : CertificateBeside). IsFoundBeside mid name (g.F.Files.blamed c.look_beside.new.files) b) c.in-Absent.is looked.found in
    let absent = subst (λ (known : List ℕ → Option (List ℕ)). known (name_of_certificate name) ≡ None) read.files.kept found in
    let counts = subst (λ (b : CertificateBeside). CountsBeside mid.failures (g.F.Files.failures c.look_beside.new.files) b) c.in-Absent.is looked.counts in
    let came = c.play_file.ensures.comes (from.known name) (λ bytes is. search (rules, read.read bytes is)) in (
      Absent,
      came.0,
      plays_absent from later name (file_of c.args.asked) c.args.asked.manner _ _ came.0 _ _ absent came.1 (λ none. ap g.F.Files.failures (c.play_file.ensures.unsaved none) ∙ counts ∙ read.files.blamed.1 (λ e. cc)),
      (_, refl, came.2),
    )

pub returns-clause-comes : goal.returns-clause-comes
returns-clause-comes g c =
    let of = held g.F.Files.known g.F.Files.failures g.F.Files.can_fail g.F.Files.blamed in
    let shown = seen g.E.Sink.contents g.E.Sink.failures g.E.Sink.waits in
    let from = of c.args.devices.now.files.now in
    let mid = of c.read_file.new.files in
    let later = of c.play_file-in-Unaccepted.new.devices.files.now in
    let name = c.args.name.now in
    let beside = name_of_certificate name in
    let blame = g.F.Files.blamed c.look_beside.new.files in
    let problem = c.in-Unaccepted.problem in
    let read = c.in_ok-file.ensures in
    let looked = c.in_ok-accepted.ensures in
    let found = subst (λ (b : CertificateBeside). IsFoundBeside mid name blame b) c.in-Unaccepted.is looked.found in
    let unused = unused_before from mid name blame problem read.files.kept read.files.alike found.1 in
    let counts = subst (λ (b : CertificateBeside). CountsBeside mid.failures (g.F.Files.failures c.look_beside.new.files) b) c.in-Unaccepted.is looked.counts in
    let came = c.play_file-in-Unaccepted.ensures.comes (from.known name) (λ bytes is. search (rules, read.read bytes is)) in
    let old = shown c.args.devices.now.errors.now in
    let new = shown c.say_unused.new.errors in
    let named : c.as_str.result.now ≡ beside = search (rules, found.0) in
    let blamed = subst (λ (b : Option Blame). SaysUnused c.as_str.result.now b problem old new) c.blame-blame.ensures c.say_unused.ensures in
    let said = subst (λ (n : List ℕ). SaysUnused n blame problem old new) named blamed in (
      Unused blame problem,
      came.0,
      plays_unused from later name (file_of c.args.asked) c.args.asked.manner _ _ came.0 _ _ blame problem unused came.1 (λ still none. ap g.F.Files.failures (c.play_file-in-Unaccepted.ensures.unsaved none) ∙ uncounted _ _ blame problem counts still ∙ read.files.blamed.1 (λ e. cc)),
      (_, said, came.2),
    )
