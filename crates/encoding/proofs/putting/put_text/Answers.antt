use Rattle.std.proofs.Common.{◌≡◌, ap, ◌∙◌}
use Rattle.std.specs.FinMap.{insert}
use Rattle.std.proofs.lemmas.Option.{same_Some}
use Rattle.tables.specs.Database.{database}
use Rattle.tables.proofs.Orders.{exact_customer}
use Rattle.tables.proofs.Views.{insert-view}
use Rattle.encoding.proofs.Puts.{puts_text}
use Rattle.encoding.proofs.putting.put_text.Goals as goal

pub returns : goal.returns
returns c =
    let row = c.requires in
    let words = same_Some _ _ row.1 in
    let kept : c.in_ok-text.text ≡ row.0 = c.in_ok-text.ensures row.0 row.2 words in
    λ t0 is.
    puts_text t0 c.args.words.now (database c.args.tables.now) c.args.key row.0 _
    (insert-view exact_customer c.args.tables.now.texts c.insert.new.self c.args.key _ c.in_ok-insert.ensures.updates
    ∙ ap (insert (database c.args.tables.now).texts c.args.key) kept) is row.2 words
