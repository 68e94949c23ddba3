use Rattle.std.proofs.Common.{◌≡◌, Bool, true, false, Some, None, IsTrue, refl, sym, ap, ◌∙◌, subst}
use Rattle.std.specs.Prelude.{◌↔◌, if◌then◌else◌}
use Rattle.log_text.specs.Bodies.{marked, may_be_void}
use Rattle.log_text.specs.declared.last.Last.{Last}
use Rattle.logfile.specs.Standing.{LogFileView}
use Rattle.logfile.proofs.log_file.LogFile.may_be_void.Goals as goal

-- a test that chooses whether there is a value
chosen : (b : Bool) (now : Last) → IsTrue b ↔ ((if b then Some now else None) ≡ Some now)
chosen true now = ((λ t. refl), (λ e. refl))
chosen false now = ((λ t. absurd cc), (λ e. absurd cc))

pub returns : goal.returns
returns g c =
    let test : Bool = may_be_void c.args.self.now.last c.args.low c.args.high in
    let now : Last = marked c.args.high c.args.self.now.last in
    let same : c.may_be_void.result ≡ test
    = c.may_be_void.ensures ∙ ap (λ (v : LogFileView _). may_be_void v.last c.args.low c.args.high) c.self.view_is in
    subst (λ (b : Bool). IsTrue b ↔ ((if test then Some now else None) ≡ Some now)) (sym same) (chosen test now)
