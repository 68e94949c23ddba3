use Rattle.std.proofs.Common.{◌≡◌, sym, ap, ◌∙◌, subst}
use Rattle.tables.specs.Sizes.{Sizes}
use Rattle.tables.specs.Database.{Database}
use Rattle.tables.specs.Records.{IsNarrowKey}
use Rattle.tables.proofs.Numbers.{of_narrow}
use Rattle.tables.specs.Rows.{row_at}
use Rattle.rows.proofs.Found.{row_read}
use Rattle.book.specs.History.{replay}
use Rattle.book.proofs.Replaying.{replay-scale}
use Rattle.program_script.proofs.Shown.{no_row}
use Rattle.program_script.proofs.showing.row_at.Goals as goal

pub returns-in_err-words-clause-row : goal.returns-in_err-words-clause-row
returns-in_err-words-clause-row g c =
    let t = replay g.K.Run.run.first c.args.session.now.history in
    no_row g.T.Keyed.words_of (g.T.Keyed.at t c.args.key) (c.in_err-words.ensures.words ∙ (ap (row_at t) c.key.ensures ∙ g.met.T.Keyed.record_holds_row t c.args.key))
    ∙ sym c.from_residual.ensures

pub returns-clause-row : goal.returns-clause-row
returns-clause-row g c =
    let t0 = g.K.Run.run.first in
    let t = replay t0 c.args.session.now.history in
    let scale : t.scale ≡ c.scale.result = replay-scale t0 c.args.session.now.history ∙ sym (c.scale.ensures ∙ ap (λ (t : Database). t.scale) c.population.ensures) in
    let at_key = of_narrow t.scale (g.T.Keyed.record_of c.args.key)
    (subst (λ (s : Sizes). IsNarrowKey s (g.T.Keyed.record_of c.args.key)) (sym (replay-scale t0 c.args.session.now.history)) c.requires) in
    let held = c.in_ok-words.ensures.words ∙ (ap (row_at t) c.key.ensures ∙ g.met.T.Keyed.record_holds_row t c.args.key) in
    row_read (g.T.Keyed.are c.scale.result) g.T.Keyed.words_of c.in_ok-words.words c.read.result c.read.ensures (g.T.Keyed.at t c.args.key)
    (λ r is. subst (λ (s : Sizes). g.T.Keyed.are s r) scale (g.met.T.Keyed.within t c.args.key r c.words_of.ensures.well_formed at_key is)) held
