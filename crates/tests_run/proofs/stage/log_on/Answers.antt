use Rattle.std.proofs.Common.{refl, sym, ap, ◌∙◌, subst}
use Rattle.tables.specs.Sizes.{Sizes}
use Rattle.population.specs.Initial.{initial}
use Rattle.log_header.specs.Header.{HeaderView, header_view}
use Rattle.logger.specs.Logger.{LoggerView}
use Rattle.lane_logger.specs.Found.{IsFoundIn, new_files}
use Rattle.lane_logger.proofs.Found.{made_new}
use Rattle.tests_run.proofs.stage.log_on.Goals as goal

pub returns : goal.returns
returns g c =
    let made = c.in_ok-file in
    let told = c.new-header.ensures.value in
    let scale = (initial c.args.population.now).scale in
    let header = made.ensures.header ∙ (λ i. header_view (told i).logger (told i).loggers (told i).scale (told i).seed)
    ∙ ap (λ (s : Sizes). header_view c.args.logger.0 c.args.logger.1 s 0) c.scale.ensures in
    subst (λ (logger : LoggerView g.row.D.Denot). IsFoundIn c.args.seat.board (new_files c.args.logger.1 scale 0) g.D.Disk.is_modelled g.D.Disk.seen g.D.Disk.story logger)
    (sym c.new.ensures) (record {
      own = refl;
      named = λ modelled. ap (λ (h : HeaderView). new_files c.args.logger.1 scale 0 h.logger) header
          ∙ made_new g.D.Disk.seen g.D.Disk.story made.file (header_view c.args.logger.0 c.args.logger.1 scale 0) (g.D.Disk.story c.args.slot.0) header made.ensures.last
          (made.ensures.stands modelled) (made.ensures.bytes modelled) (made.ensures.calls modelled) (c.requires.empty modelled).1;
    })
