use Rattle.std.proofs.Common.{◌≡◌, List, ℕ, Option, Some, None, ◌++◌, Bor, sym, ap}
use Rattle.std.proofs.Math.Facts.{Fits-lt-pow}
use Rattle.std.specs.Prelude.{IfSome, IfNone}
use Rattle.std.specs.Option.{option_map}
use Rattle.log_codec.specs.Numbers.{IsBytes}
use Rattle.log_header.specs.Header.{HeaderView, IsHeader, header_text}
use Rattle.log_header.specs.HeaderReading.{header_from}
use Rattle.log_header.proofs.Headers.{codec-header}
use Rattle.log_header.proofs.header.read_header.Goals as goal

found : (bytes : List ℕ) (r : Option (HeaderView × Bor (List ℕ))) → IsBytes bytes → option_map (λ x. (x.0, x.1.now)) r ≡ header_from bytes
    → IfSome r (λ x. IsHeader x.0 × (bytes ≡ header_text x.0 ++ x.1.now))
found bytes None is e = tt
found bytes (Some x) is e = let t = codec-header.takes bytes (x.0, x.1.now) is (sym e) in (t.1, t.0)

none : (bytes : List ℕ) (r : Option (HeaderView × Bor (List ℕ))) → option_map (λ x. (x.0, x.1.now)) r ≡ header_from bytes
    → IfNone r ((h : HeaderView) (rest : List ℕ) → IsHeader h → bytes ≡ header_text h ++ rest → ⊥)
none bytes None e = λ h rest is_h text. let again = codec-header.again h rest is_h in let read = ap header_from text in cc
none bytes (Some x) e = tt

pub returns-clause-found : goal.returns-clause-found
unfolding header_from
returns-clause-found c = found c.args.bytes.now c.header_at.result (λ i. Fits-lt-pow (c.type_inv.bytes i)) c.header_at.ensures

pub returns-clause-none : goal.returns-clause-none
unfolding header_from
returns-clause-none c = none c.args.bytes.now c.header_at.result c.header_at.ensures
