use Rattle.std.proofs.Common.{ap, ◌∙◌, ◌==◌}
use Rattle.readset.proofs.Ordered.{is_listed, ordered_length}
use Rattle.readset.proofs.arrivals.Arrivals.count.Goals as goal

pub returns-else-is_empty : goal.returns-else-is_empty
returns-else-is_empty g c =
    let some = is_listed c.args.self.now.order.items _ (c.is_empty.ensures ∙ ap (λ n. n == 0) c.args.self.now.order.ok.0) c.if-is_empty.false in
    c.len-else-is_empty.ensures ∙ c.args.self.now.order.ok.0 ∙ ordered_length c.args.self.now.entries.items c.args.self.now.order.items some c.args.self.now.sound
