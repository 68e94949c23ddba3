use Rattle.std.proofs.Common.{◌≡◌, ◌<◌, ◌^◌, ◌∙◌, subst, sym, ap, List, ℕ, length, rules, arith}
use Rattle.std.specs.Prelude.{map}
use Rattle.log_text.specs.Bodies.{BodyView, body_of}
use Rattle.log_text.specs.File.{IsFile}
use Rattle.log_scan.proofs.SameFile.{in_whole}
use Rattle.log_flaws.specs.Flaws.{HasFlaw, IsExamined}
use Rattle.log_flaws.specs.Fronts.{flaw_in}
use Rattle.log_flaws.specs.declared.examining.Examined.{Examined}
use Rattle.log_flaws.specs.declared.flaw.FileFlaw.{FileFlaw}
use Rattle.log_flaws.proofs.FrontFlaws.{front_flaw}
use Rattle.program_recovery.proofs.damage.flaw_on.Goals as goal

pub returns-clause-flaw : goal.returns-clause-flaw
returns-clause-flaw g c =
    let asked = c.args.asked.now in
    let read = c.in_ok-bytes.ensures.text in
    let flaw : FileFlaw = c.in-Flawed.flaw in
    let small : c.in_ok-size.size < 2 ^ 64 = search rules in
    let examined = subst (λ (e : Examined). IsExamined c.deref.result.now asked e) c.in-Flawed.is c.in_ok-examine.ensures.examined in
    let told = front_flaw c.in_ok-bytes.bytes.items read.0 asked flaw (omega (arith, small, read.1)) read.3
    (subst (λ (l : List ℕ). HasFlaw l asked flaw) c.deref.ensures.value examined.0) in
    let named : flaw_in (length read.0) flaw ≡ c.in_file_of.result = ap (λ (n : ℕ). flaw_in n flaw) read.1 ∙ sym c.in_file_of.ensures in (
      read.0,
      (λ modelled. read.2 modelled ∙ c.in_ok-size.ensures.reads.seen modelled),
      subst (HasFlaw read.0 asked) named told,
    )

pub returns-in-Whole-clause-flaw : goal.returns-in-Whole-clause-flaw
returns-in-Whole-clause-flaw g c =
    let asked = c.args.asked.now in
    let read = c.in_ok-bytes.ensures.text in
    let bodies : List BodyView = map body_of c.in-Whole.field-0.items in
    let small : c.in_ok-size.size < 2 ^ 64 = search rules in
    let examined = subst (λ (e : Examined). IsExamined c.deref.result.now asked e) c.in-Whole.is c.in_ok-examine.ensures.examined in (
      read.0,
      (λ modelled. read.2 modelled ∙ c.in_ok-size.ensures.reads.seen modelled),
      (bodies, in_whole c.in_ok-bytes.bytes.items read.0 asked bodies read.3 (subst (λ (l : List ℕ). IsFile l asked bodies) c.deref.ensures.value examined)),
    )
