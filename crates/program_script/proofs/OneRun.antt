-- Lines have one run.
use Rattle.std.proofs.Common.{◌≡◌, ℕ, ◌+◌, ◌<◌, List, [], ◌∷◌, refl, sym, ap, ◌∙◌, subst, arith}
use Rattle.std.proofs.lemmas.Option.{same_Some}
use Rattle.money.specs.declared.refusal.Refusal.{Refusal}
use Rattle.money.specs.declared.refusal.Refusal.TheVariants.{ItemNotValid, OrdersFull, CommitsFull}
use Rattle.tables.specs.Database.{Database}
use Rattle.tables.specs.Apply.{Outcome, Committed, RolledBack, apply, left_by, HasOrderNumber}
use Rattle.tables.specs.declared.input.Input.{Input}
use Rattle.tables.specs.declared.reply.Reply.{Reply}
use Rattle.program_script_text.specs.declared.request.Request.{Request}
use Rattle.program_script_text.specs.declared.request.Request.TheVariants.{Transaction, Show}
use Rattle.program_script_text.specs.declared.answer.Answer.{Answer}
use Rattle.program_script_text.specs.declared.answer.Answer.TheVariants as answer
use Rattle.program_script_text.proofs.OneText.{one_line_one_request}
use Rattle.book.specs.Next.{IsRefusedAt}
use Rattle.program_script.specs.Turns.{State, Turn, committed, IsInputTurn, declined, done, IsRequestAnswered, IsRequestTurn, beyond}
use Rattle.program_script.specs.Turns.{within, IsLineTurn, long, unread, read, AreTurns, refused}

abbrev told_by : Reply → Outcome → Reply
told_by other (Committed tables told) = told
told_by other (RolledBack item) = other

abbrev item_of : ℕ → Outcome → ℕ
item_of other (Committed tables told) = other
item_of other (RolledBack item) = item

-- the committed tables have one refusal for an input
one_declined : (t : Database) (count : ℕ) (x : Input) (a b : Refusal) → IsRefusedAt t count x a → IsRefusedAt t count x b → a ≡ b
one_declined t count x (ItemNotValid item) (ItemNotValid other) h k = ap (λ o. ItemNotValid (item_of item o)) (sym h ∙ k)
one_declined t count x (ItemNotValid item) OrdersFull h k = absurd (rw h at k.0)
one_declined t count x (ItemNotValid item) CommitsFull h k = absurd (rw h at k.0)
one_declined t count x (ItemNotValid item) _ h k = absurd k
one_declined t count x OrdersFull (ItemNotValid item) h k = absurd (rw k at h.0)
one_declined t count x OrdersFull OrdersFull h k = refl
one_declined t count x OrdersFull CommitsFull h k = absurd (h.1 k.1)
one_declined t count x OrdersFull _ h k = absurd k
one_declined t count x CommitsFull (ItemNotValid item) h k = absurd (rw k at h.0)
one_declined t count x CommitsFull OrdersFull h k = absurd (k.1 h.1)
one_declined t count x CommitsFull CommitsFull h k = refl
one_declined t count x CommitsFull _ h k = absurd k
one_declined t count x _ b h k = absurd h

-- what they refuse doesn't commit
not_declined : (t : Database) (count : ℕ) (x : Input) (refusal : Refusal) (after : Database) (told : Reply) → IsRefusedAt t count x refusal
    → HasOrderNumber t x → count < t.scale.commits → apply t x ≡ Committed after told → ⊥
not_declined t count x (ItemNotValid item) after told h numbered room commits = let both : Committed after told ≡ RolledBack item = sym commits ∙ h in cc
not_declined t count x OrdersFull after told h numbered room commits = h.1 numbered
not_declined t count x CommitsFull after told h numbered room commits = omega (arith, h.2, room)
not_declined t count x _ after told h numbered room commits = h

one_input : (s : State) (n : ℕ) (x : Input) (a b : Turn) → IsInputTurn s n x a → IsInputTurn s n x b → a ≡ b
one_input s n x a b (declined r h e) (declined q k f) =
    e ∙ ap (λ z. refused s z n) (one_declined s.tables _ x r q h k) ∙ sym f
one_input s n x a b (declined r h e) (done t told numbered room out f) = absurd (not_declined s.tables _ x r t told h numbered room out)
one_input s n x a b (done t told numbered room out e) (declined r h f) = absurd (not_declined s.tables _ x r t told h numbered room out)
one_input s n x a b (done t r numbered room out e) (done u q counts free comes f) =
    let same : Committed t r ≡ Committed u q = sym out ∙ comes in
    e ∙ (λ i. committed s (ap (left_by s.tables) same i) (ap (told_by r) same i)) ∙ sym f

one_answered : (s : State) (n : ℕ) (asked : Request) (a b : Turn) → IsRequestAnswered s n asked a → IsRequestAnswered s n asked b → a ≡ b
one_answered s n (Transaction x) a b h k = one_input s n x a b h k
one_answered s n (Show key) a b h k =
    h.2 ∙ (λ i. record { answer = answer.Row (same_Some h.0 k.0 (sym h.1 ∙ k.1) i); state = s }) ∙ sym k.2

one_request : (s : State) (n : ℕ) (asked : Request) (a b : Turn) → IsRequestTurn s n asked a → IsRequestTurn s n asked b → a ≡ b
one_request s n asked a b (beyond not e) (beyond isnt f) = e ∙ sym f
one_request s n asked a b (beyond not e) (within is h) = absurd (not is)
one_request s n asked a b (within is h) (beyond isnt f) = absurd (isnt is)
one_request s n asked a b (within is h) (within also k) = one_answered s n asked a b h k

one_line : (s : State) (n : ℕ) (line : List ℕ) (a b : Turn) → IsLineTurn s n line a → IsLineTurn s n line b → a ≡ b
one_line s n line a b (long above e) (long over f) = e ∙ sym f
one_line s n line a b (long above e) (unread short none f) = absurd (omega arith)
one_line s n line a b (long above e) (read asked short at is f) = absurd (omega arith)
one_line s n line a b (unread short none e) (long over f) = absurd (omega arith)
one_line s n line a b (unread short none e) (unread brief lacks f) = e ∙ sym f
one_line s n line a b (unread short none e) (read asked brief at is f) = absurd (none asked at is)
one_line s n line a b (read asked short at is e) (long over f) = absurd (omega arith)
one_line s n line a b (read asked short at is e) (unread brief none f) = absurd (none asked at is)
one_line s n line a b (read asked short at is e) (read other brief also same f) =
    let one : asked ≡ other = one_line_one_request n asked other at also (sym is ∙ same) in
    one_request s n other a b (subst (λ r. IsRequestTurn s n r a) one e) f

-- two runs of the same lines from one state
pub one_run : (s : State) (n : ℕ) (lines : List (List ℕ)) (one other : List Answer) (last end : State) → AreTurns s n lines one last
    → AreTurns s n lines other end → (one ≡ other) × (last ≡ end)
one_run s n [] one other last end p q = (p.0 ∙ sym q.0, p.1 ∙ sym q.1)
one_run s n (line ∷ lines) one other last end p q =
    let same : p.0 ≡ q.0 = one_line s n line p.0 q.0 p.2 q.2 in
    let moved : AreTurns q.0.state (n + 1) lines p.1 last = subst (λ (t : Turn). AreTurns t.state (n + 1) lines p.1 last) same p.4 in
    let later = one_run q.0.state (n + 1) lines p.1 q.1 last end moved q.4 in
    let told : p.0.answer ∷ p.1 ≡ q.0.answer ∷ q.1 = ap (λ (t : Turn). t.answer ∷ p.1) same ∙ ap (λ l. q.0.answer ∷ l) later.0 in
    (p.3 ∙ told ∙ sym q.3, later.1)
