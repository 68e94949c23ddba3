use Rattle.std.proofs.Common.{◌≡◌, ◌≢◌, ◌∷◌, ◌++◌, Some, ap, rules}
use Rattle.std.specs.Prelude.{find}
use Rattle.log_text.specs.File.{opened}
use Rattle.log_flaws.specs.Fields.{differs, number_in}
use Rattle.log_flaws.specs.declared.field.TheConstants.{FIELDS}
use Rattle.log_flaws.proofs.Headers.{different, passes}
use Rattle.log_flaws.proofs.Standing.{one_header}
use Rattle.log_flaws.proofs.examining.examine.Goals as goal

pub returns-in_default-clause-examined : goal.returns-in_default-clause-examined
returns-in_default-clause-examined c = (
  c.headless.ensures.flaw c.args.asked.now,
  λ bodies is. c.in_default.ensures.none c.args.asked.now (opened bodies ++ is.gate ∷ is.rest) is.header is.text,
)

pub returns-in-Some-first_difference-clause-examined : goal.returns-in-Some-first_difference-clause-examined
returns-in-Some-first_difference-clause-examined c =
    let header = c.in-Some.header in
    let asked = c.args.asked.now in
    let field = c.in-Some-first_difference.field in
    let begins = c.in-Some.ensures.found in
    let found : find (differs header asked) FIELDS ≡ Some field = search rules in
    let number : c.of.result ≡ number_in field header = search rules in
    let other : number_in field header ≢ number_in field asked =
    different header asked field (passes (differs header asked) FIELDS field found) in (
      (
        record {
          header = header;
          rest = c.in-Some.bytes.now;
          lawful = begins.0;
          text = begins.1;
          first = found;
          found = number;
        },
        c.of-in-Some-first_difference.ensures,
      ),
      λ bodies is. other (ap (number_in field) (one_header header asked begins.0 c.args.file.now c.in-Some.bytes.now begins.1 bodies is)),
    )
