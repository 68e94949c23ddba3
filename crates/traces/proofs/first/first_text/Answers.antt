use Rattle.std.proofs.Common.{◌≡◌, ℕ, List, ◌++◌, ap, ◌∙◌}
use Rattle.log_codec.specs.Numbers.{number}
use Rattle.log_header.specs.Header.{header_text}
use Rattle.traces.proofs.first.first_text.Goals as goal

pub returns : goal.returns
unfolding number
returns c =
    let header : c.put_header.new.out.items ≡ header_text c.args.header.now
    = c.in_ok-put_header.ensures.ok ∙ ap (λ (l : List ℕ). l ++ header_text c.args.header.now) c.new-text.ensures.items in
    c.in_ok-put_u8.ensures.ok ∙ ap (λ (l : List ℕ). l ++ number 1 0) header
