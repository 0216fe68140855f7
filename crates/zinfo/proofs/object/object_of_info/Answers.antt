use Rattle.std.proofs.Common.{◌≡◌, ◌∙◌, ap, codes, rules, subst, IfOk, ℕ, List}
use Rattle.json.specs.Json.{Json, string}
use Rattle.zinfo.specs.Object.{facts_of, frames_of, listed_of, marks_of, name_of, parts_of, version_of}
use Rattle.zinfo.specs.Shown.{shown}
use Rattle.zjson.specs.Objects.{Pair, line_of, number, number_or_null, text_or_null}
use Rattle.zjson.proofs.Members.{last, then}
use Rattle.zinfo.proofs.object.object_of_info.Goals as goal

pub returns : goal.returns
returns c =
    let file_text : c.as_str.result.now ≡ c.args.file.now = search (rules, c.as_str.ensures, c.in_ok-file.ensures) in
    let digest_text : c.as_str-2.result.now ≡ c.args.digest.now = search (rules, c.as_str-2.ensures, c.in_ok-digest.ensures) in
    let certificate_text : c.as_str-4.result.now ≡ c.args.certificate.now = search (rules, c.as_str-4.ensures, c.in_ok-certificate.ensures) in
    let serial_text : c.as_str-3.result.now ≡ shown c.args.info.now.serial = search (rules, c.as_str-3.ensures, c.in_ok-serial.ensures) in
    let file = c.new.ensures ∙ ap (λ (t : List ℕ). (codes "file", string t)) file_text in
    let digest = c.new-2.ensures ∙ ap (λ (t : List ℕ). (codes "sha256", string t)) digest_text in
    let release = c.new-3.ensures ∙ ap (λ (n : ℕ). (codes "release", number n)) c.from.ensures in
    let serial = c.new-4.ensures ∙ ap (λ (t : List ℕ). (codes "serial", string t)) serial_text in
    let length = c.new-5.ensures ∙ ap (λ (n : ℕ). (codes "length", number n)) c.from-2.ensures in
    let stated = c.new-6.ensures ∙ ap (λ (n : ℕ). (codes "checksum", number n)) c.stated_of.ensures in
    let sum = c.new-7.ensures ∙ ap (λ (n : ℕ). (codes "sum", number n)) c.sum_of.ensures in
    let right = c.new-8.ensures ∙ ap (λ (j : Json). (codes "checksum_right", j)) c.right_of.ensures in
    let objects = c.new-9.ensures ∙ ap (λ (n : ℕ). (codes "objects", number n)) c.from-3.ensures in
    let words = c.new-10.ensures ∙ ap (λ (n : ℕ). (codes "words", number n)) c.from-4.ensures in
    let routines = c.new-11.ensures ∙ ap (λ (j : Json). (codes "routines", j)) (c.of_number.ensures ∙ ap number_or_null c.routines_of.ensures) in
    let instructions = c.new-12.ensures ∙ ap (λ (j : Json). (codes "instructions", j)) (c.of_number-2.ensures ∙ ap number_or_null c.instructions_of.ensures) in
    let code = c.new-13.ensures ∙ ap (λ (j : Json). (codes "code", j)) (c.of_text.ensures ∙ ap text_or_null c.fault_of.ensures) in
    let address = c.new-14.ensures ∙ ap (λ (j : Json). (codes "address", j)) (c.of_text-2.ensures ∙ ap text_or_null (c.borrowed.ensures ∙ c.in_ok-address.ensures)) in
    let cause = c.new-15.ensures ∙ ap (λ (j : Json). (codes "cause", j)) (c.of_text-3.ensures ∙ ap text_or_null c.cause_of.ensures) in
    let opcode = c.new-16.ensures ∙ ap (λ (j : Json). (codes "opcode", j)) (c.of_text-4.ensures ∙ ap text_or_null c.opcode_of.ensures) in
    let split = c.new-17.ensures in
    let window = c.new-18.ensures in
    let output = c.new-19.ensures in
    let input = c.new-20.ensures in
    let sound = c.new-21.ensures in
    let certificate = c.new-22.ensures ∙ ap (λ (j : Json). (codes "certificate", j)) (c.name_of.ensures ∙ ap (λ (t : List ℕ). name_of t c.args.beside.now) certificate_text) in
    let why = c.new-23.ensures ∙ ap (λ (j : Json). (codes "certificate_code", j)) (c.of_text-5.ensures ∙ ap text_or_null (c.borrowed-2.ensures ∙ c.in_ok-code.ensures)) in
    let readable = c.new-24.ensures ∙ ap (λ (j : Json). (codes "certificate_readable", j)) c.readable_of.ensures in
    let version = c.new-25.ensures ∙ ap (λ (j : Json). (codes "certificate_version", j)) (c.of_number-3.ensures ∙ ap number_or_null (c.version_of.ensures ∙ ap version_of c.kept_of-kept.ensures)) in
    let frames = c.new-26.ensures ∙ ap (λ (j : Json). (codes "certificate_frames", j)) (c.of_number-4.ensures ∙ ap number_or_null (c.frames_of.ensures ∙ ap frames_of c.kept_of-kept.ensures)) in
    let parts = c.new-27.ensures ∙ ap (λ (j : Json). (codes "certificate_routines", j)) (c.of_number-5.ensures ∙ ap number_or_null (c.parts_of.ensures ∙ ap parts_of c.kept_of-kept.ensures)) in
    let listed = c.new-28.ensures ∙ ap (λ (j : Json). (codes "certificate_instructions", j)) (c.of_number-6.ensures ∙ ap number_or_null (c.listed_of.ensures ∙ ap listed_of c.kept_of-kept.ensures)) in
    let marks = c.new-29.ensures ∙ ap (λ (j : Json). (codes "certificate_marks", j)) (c.of_number-7.ensures ∙ ap number_or_null (c.marks_of.ensures ∙ ap marks_of c.kept_of-kept.ensures)) in
    let facts = c.new-30.ensures ∙ ap (λ (j : Json). (codes "certificate_facts", j)) (c.of_number-8.ensures ∙ ap number_or_null (c.facts_of.ensures ∙ ap facts_of c.kept_of-kept.ensures)) in
    let beside = then certificate (then why (then readable (then version (then frames (then parts (then listed (then marks (last facts)))))))) in
    let later = then words (then routines (then instructions (then code (then address (then cause (then opcode (then split (then window (then output (then input (then sound beside))))))))))) in
    let all = then file (then digest (then release (then serial (then length (then stated (then sum (then right (then objects later)))))))) in
    subst (λ (ps : List Pair). IfOk c.line_of.result (λ line. line.items ≡ line_of ps)) all c.line_of.ensures.text
