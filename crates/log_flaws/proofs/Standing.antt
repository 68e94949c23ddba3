-- A log file, seen from behind its header.
use Rattle.std.proofs.Common.{◌≡◌, ℕ, ◌+◌, ◌-◌, Bool, true, false, cond, List, [], ◌∷◌, ◌++◌, Option, Some, None, length, refl, sym, ap, ◌∙◌, subst, arith, length-append}
use Rattle.std.specs.Prelude.{nat_lt}
use Rattle.log_codec.specs.Numbers.{number_at}
use Rattle.log_codec.proofs.Codecs.{one_value}
use Rattle.log_header.specs.Header.{HeaderView, IsHeader, header_text}
use Rattle.log_header.proofs.Headers.{codec-header}
use Rattle.log_text.specs.Bodies.{BodyView, bodies_after, start}
use Rattle.log_text.specs.File.{AreBodies, IsFile, opened}
use Rattle.log_text.specs.declared.last.Last.{Last}
use Rattle.log_flaws.specs.Voids.{void_flaw}
use Rattle.log_flaws.specs.Flaws.{Reaches, HasNoBody, HasFlaw, body_flaw, end_of, length_flaw}
use Rattle.log_flaws.specs.declared.flaw.FileFlaw.{FileFlaw}
use Rattle.log_flaws.specs.declared.flaw.FileFlaw.TheVariants.{EndsInside, NoBody}
use Rattle.log_flaws.specs.declared.voids.VoidFlaw.{VoidFlaw}

-- bytes that begin with a header are no file of another one
pub one_header : (g h : HeaderView) → IsHeader g → (file rest : List ℕ) → file ≡ header_text g ++ rest → (bodies : List BodyView)
    → IsFile file h bodies → g ≡ h
one_header g h lawful file rest text bodies is =
    (one_value codec-header g h rest (opened bodies ++ is.gate ∷ is.rest) lawful is.header (sym text ∙ is.text)).0

-- behind a file's header are its bodies
pub behind_header : (h : HeaderView) → IsHeader h → (file bytes : List ℕ) → file ≡ header_text h ++ bytes → (bodies : List BodyView)
    → IsFile file h bodies → AreBodies h bodies bytes
behind_header h lawful file bytes text bodies is = record {
  gate = is.gate;
  rest = is.rest;
  text = (one_value codec-header h h bytes (opened bodies ++ is.gate ∷ is.rest) lawful lawful (sym text ∙ is.text)).1;
  is_closed = is.is_closed;
  lawful = is.lawful;
}

-- where bodies were read in front of the rest, a file reaches the rest
pub is_reached : (h : HeaderView) (file bytes rest : List ℕ) (bodies : List BodyView) (last : Last) → file ≡ header_text h ++ bytes
    → bytes ≡ opened bodies ++ rest → bodies_after h start bodies ≡ Some last → Reaches file h (length file - length rest) last rest
is_reached h file bytes rest bodies last text read lawful =
    let whole : file ≡ header_text h ++ (opened bodies ++ rest) = text ∙ ap (λ (l : List ℕ). header_text h ++ l) read in
    record {
      bodies = bodies;
      text = whole;
      place = omega (arith, ap length whole, length-append (header_text h) (opened bodies ++ rest), length-append (opened bodies) rest);
      lawful = lawful;
    }

pub nothing : (bytes : List ℕ) → length bytes ≡ 0 → bytes ≡ []
nothing [] none = refl
nothing (b ∷ bs) none = absurd (omega (arith, none))

-- what is told of a place where no body may stand is so
pub body_flawed : (file : List ℕ) (h : HeaderView) (at : ℕ) (n : HasNoBody file h at) (flaw : FileFlaw)
    → flaw ≡ body_flaw at n.text (void_flaw n.last n.text) → HasFlaw file h flaw
body_flawed file h at n flaw e = subst (HasFlaw file h) (sym e) (told (void_flaw n.last n.text) refl)
  where
    is_told : (left : ℕ) (size : Option (ℕ × List ℕ)) → length_flaw at left size ≡ body_flaw at n.text (void_flaw n.last n.text)
        → HasFlaw file h (length_flaw at left size)
    is_told left None q = (n, q)
    is_told left (Some size) q = by_length (nat_lt (length size.1) size.0) q
      where
        by_length : (b : Bool) → cond b (EndsInside (at + left) at (end_of at size.0)) (NoBody at) ≡ body_flaw at n.text (void_flaw n.last n.text)
            → HasFlaw file h (cond b (EndsInside (at + left) at (end_of at size.0)) (NoBody at))
        by_length true q = (n, q)
        by_length false q = (n, q)

    told : (why : Option VoidFlaw) → void_flaw n.last n.text ≡ why → HasFlaw file h (body_flaw at n.text why)
    told None q = is_told (length n.text) (number_at 8 n.text) (ap (body_flaw at n.text) (sym q))
    told (Some why) q = (n, ap (body_flaw at n.text) (sym q))
