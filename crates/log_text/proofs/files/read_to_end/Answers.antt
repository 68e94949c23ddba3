use Rattle.std.proofs.Common.{◌++◌, ◌∷◌, sym, ◌∙◌, subst, rules}
use Rattle.log_codec.proofs.Codecs.{one_value}
use Rattle.log_header.specs.Header.{HeaderView}
use Rattle.log_text.specs.File.{AreBodies, opened}
use Rattle.log_header.proofs.Headers.{codec-header}
use Rattle.log_text.proofs.files.read_to_end.Goals as goal

pub returns-in_err-bodies-clause-damaged : goal.returns-in_err-bodies-clause-damaged
returns-in_err-bodies-clause-damaged c = λ e h bodies is.
    let heads = one_value codec-header c.in-Some.header h c.in-Some.bytes.now (opened bodies ++ is.gate ∷ is.rest) c.in-Some.ensures.found.0 is.header
    (sym c.in-Some.ensures.found.1 ∙ is.text) in
    let are : AreBodies c.in-Some.header bodies c.in-Some.bytes.now = subst (λ (g : HeaderView). AreBodies g bodies c.in-Some.bytes.now) (sym heads.0) (record {
      gate = is.gate;
      rest = is.rest;
      text = heads.1;
      is_closed = is.is_closed;
      lawful = is.lawful;
    }) in
    c.in_err-bodies.ensures.damaged (search (rules, e)) bodies (search (rules, are))
