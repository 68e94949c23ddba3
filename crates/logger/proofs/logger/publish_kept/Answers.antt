use Rattle.logger.proofs.Turning.{marks_and_publishes, is_logger_again}
use Rattle.logger.proofs.logger.publish_kept.Goals as goal

pub returns : goal.returns
returns g c =
    let file = c.args.file.now in
    let seat = c.args.seat.now in
    let marked = c.set_local.new.seat in
    let now = c.publish.new.seat in
    let published = c.publish.ensures in
    let mark = file.last.mark in
    record {
      marks =
          marks_and_publishes file.header c.args.board.now seat marked now mark mark c.publish.result c.requires.own
          c.requires.board c.set_local.ensures published.marks;
      own =
          is_logger_again file.header c.args.board.now seat marked now mark mark c.publish.result c.requires.own
          c.requires.board c.set_local.ensures published.marks published.local;
    }
