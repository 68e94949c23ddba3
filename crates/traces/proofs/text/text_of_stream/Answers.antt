use Rattle.std.proofs.Common.{◌≡◌, List, ℕ, [], ◌∷◌, ◌++◌, map, refl, ap, ◌∙◌}
use Rattle.std.specs.Arc.{arc_value}
use Rattle.log_codec.specs.Numbers.{number}
use Rattle.log_text.specs.Bodies.{Entries, body_text}
use Rattle.book.specs.Streams.{stream}
use Rattle.log_entries.specs.Logged.{logged_entry}
use Rattle.traces.proofs.text.text_of_stream.Goals as goal

closed : number 1 0 ≡ 0 ∷ []
unfolding number
closed = refl

pub returns : goal.returns
returns c =
    let body = body_text (Entries c.args.mark (map (logged_entry c.args.scale.now) (stream c.args.loggers c.args.logger (map arc_value c.args.entries.now)))) in
    c.in_ok-put_u8.ensures.ok
    ∙ (λ i. (c.in_ok-put_body.ensures ∙ ap (λ (l : List ℕ). l ++ body) c.new-out.ensures.items) i ++ closed i)
