-- What the calls of a turn make.
use Rattle.std.proofs.Common.{◌≡◌, ◌≢◌, ℕ, ◌<◌, ◌≤◌, Bool, true, false, leb, cond, Option, Some, None}
use Rattle.std.proofs.Common.{List, [], ◌∷◌, ◌++◌, ◌+◌, length, ◌⊎◌, inl, inr, refl, sym, ap}
use Rattle.std.proofs.Common.{◌∙◌, subst, arith}
use Rattle.std.proofs.lemmas.Bool.Decides.{nat_tests}
use Rattle.money.specs.declared.refusal.Refusal.{Refusal}
use Rattle.money.specs.declared.refusal.Refusal.TheVariants.{OutOfMemory, BadInput, BadLine}
use Rattle.std.proofs.lemmas.List.{length-map, length_push, map-append}
use Rattle.tables.specs.Sizes.{Sizes}
use Rattle.tables.specs.Database.{Database}
use Rattle.tables.specs.declared.input.Input.{Input}
use Rattle.program_script_text.specs.declared.line_buffer.TheConstants.{MAX_LINE}
use Rattle.program_script_text.specs.Lines.{buffered}
use Rattle.program_script_text.specs.Requests.{IsRequestAt, IsInRange, IsRefusedLine, request_text}
use Rattle.program_script_text.specs.declared.request.Request.{Request}
use Rattle.program_script_text.specs.declared.answer.Answer.TheVariants as answer
use Rattle.program_script_text.proofs.OneText.{in_reach}
use Rattle.book.specs.Done.{Done}
use Rattle.book.specs.History.{replay}
use Rattle.book.proofs.Replaying.{replay-scale}
use Rattle.book.specs.Next.{IsNextCommit, IsRefusedAt}
use Rattle.book_session.specs.Session.{SessionView}
use Rattle.program_script.specs.Answered.{state_of}
use Rattle.program_script.specs.Turns.{State, Turn, Commit, commits_of, refused, IsInputTurn, declined, done, IsRequestAnswered, IsRequestTurn}
use Rattle.program_script.specs.Turns.{beyond, within, IsLineTurn, long, unread, read}

-- what a commit leaves
pub committed_turn : (t0 : Database) (old new : SessionView) (n : ℕ) (x : Input) (d : Done)
    → length old.dones ≡ length old.history → new.dones ≡ old.dones ++ d ∷ []
    → IsNextCommit 0 t0 old.history new.history x d → IsInputTurn (state_of t0 old) n x (record { answer = answer.Reply d.reply; state = state_of t0 new })
committed_turn t0 old new n x d count dones next =
    let scale : (replay t0 old.history).scale ≡ t0.scale = replay-scale t0 old.history in
    let number : d.number ≡ length old.dones + 1 =
    omega (arith, next.number, ap length next.entry.1 ∙ length_push old.history next.entry.0, count) in
    let length_is : length (commits_of old.dones) ≡ length old.dones = length-map old.dones _ in
    let last : ℕ → Commit = λ m. record { number = m; reply = d.reply } in
    let one : commits_of new.dones ≡ commits_of old.dones ++ last (length (commits_of old.dones) + 1) ∷ [] =
    ap commits_of dones ∙ map-append _ old.dones (d ∷ []) ∙ ap (λ m. commits_of old.dones ++ last m ∷ []) (number ∙ ap (λ m. m + 1) (sym length_is)) in
    done (replay t0 new.history) d.reply next.numbered
    (subst (λ (s : Sizes). length (commits_of old.dones) < s.commits) (sym scale)
    (subst (λ m. m < t0.scale.commits) (sym (length_is ∙ count)) (omega (arith, next.below))))
    next.commits
    (λ i. record { answer = answer.Reply d.reply; state = record { tables = replay t0 new.history; commits = one i } })

-- an input that the committed tables refuse
pub declined_turn : (t0 : Database) (old new : SessionView) (n : ℕ) (x : Input) (refusal : Refusal)
    → new ≡ old → length old.dones ≡ length old.history → IsRefusedAt (replay t0 old.history) (length old.history) x refusal
    → IsInputTurn (state_of t0 old) n x (record { answer = answer.Refused refusal n; state = state_of t0 new })
declined_turn t0 old new n x refusal same count refuses =
    declined refusal
    (subst (λ m. IsRefusedAt (replay t0 old.history) m x refusal) (sym (length-map old.dones _ ∙ count)) refuses)
    (λ i. record { answer = answer.Refused refusal n; state = state_of t0 (same i) })

-- a request outside its ranges
pub beyond_turn : (t0 : Database) (session : SessionView) (n : ℕ) (asked : Request) (refusal : Refusal)
    → (refusal ≡ BadInput) × ¬ IsInRange t0.scale asked
    → IsRequestTurn (state_of t0 session) n asked (record { answer = answer.Refused refusal n; state = state_of t0 session })
beyond_turn t0 session n asked refusal is =
    beyond (subst (λ (s : Sizes). ¬ IsInRange s asked) (sym (replay-scale t0 session.history)) is.1)
    (λ i. record { answer = answer.Refused (is.0 i) n; state = state_of t0 session })

-- a request within them is answered
pub within_turn : (t0 : Database) (session : SessionView) (n : ℕ) (asked same : Request) (turn : Turn) → (same ≡ asked) × IsInRange t0.scale asked
    → IsRequestAnswered (state_of t0 session) n same turn → IsRequestTurn (state_of t0 session) n asked turn
within_turn t0 session n asked same turn is answered =
    within (subst (λ (s : Sizes). IsInRange s asked) (sym (replay-scale t0 session.history)) is.1)
    (subst (λ (r : Request). IsRequestAnswered (state_of t0 session) n r turn) is.0 answered)

-- a refusal that isn't for memory
pub but_memory : (P : Refusal → Type 0) (refusal : Refusal) → refusal ≢ OutOfMemory → (refusal ≡ OutOfMemory) ⊎ P refusal → P refusal
but_memory P refusal other (inl memory) = absurd (other memory)
but_memory P refusal other (inr p) = p

-- the bytes of a line that is buffered
pub held_some : (bytes text : List ℕ) → Some text ≡ buffered bytes → (length bytes ≤ MAX_LINE) × (bytes ≡ text)
held_some bytes text = go (leb (length bytes) MAX_LINE) refl
  where
    go : (b : Bool) → leb (length bytes) MAX_LINE ≡ b → Some text ≡ cond b (Some bytes) None → (length bytes ≤ MAX_LINE) × (bytes ≡ text)
    go true e h = (grind (arith, nat_tests), cc)
    go false e h = absurd cc

-- a line that isn't buffered
pub held_none : (bytes : List ℕ) → None ≡ buffered bytes → MAX_LINE < length bytes
held_none bytes = go (leb (length bytes) MAX_LINE) refl
  where
    go : (b : Bool) → leb (length bytes) MAX_LINE ≡ b → ◌≡◌ {A = Option (List ℕ)} None (cond b (Some bytes) None) → MAX_LINE < length bytes
    go true e h = absurd cc
    go false e h = grind (arith, nat_tests)

-- a line that is too long
pub long_turn : (s : State) (n : ℕ) (bytes : List ℕ) → None ≡ buffered bytes → IsLineTurn s n bytes (refused s BadLine n)
long_turn s n bytes is = long (held_none bytes is) refl

-- a line whose request is answered
pub read_turn : (s : State) (n : ℕ) (text : List ℕ) (request : Request) (turn : Turn) → IsRequestAt n request → text ≡ request_text request
    → IsRequestTurn s n request turn → (bytes : List ℕ) → Some text ≡ buffered bytes → IsLineTurn s n bytes turn
read_turn s n text request turn at is answered bytes h =
    let fits = held_some bytes text h in
    read request fits.0 at (fits.1 ∙ is) answered

-- a line that is refused: one of an amount beyond the limit asks for what isn't in range
pub unread_turn : (s : State) (n : ℕ) (text : List ℕ) (refusal : Refusal) → IsRefusedLine n text refusal
    → (bytes : List ℕ) → Some text ≡ buffered bytes → IsLineTurn s n bytes (refused s refusal n)
unread_turn s n text BadInput h bytes is =
    let fits = held_some bytes text is in
    read h.0 fits.0 h.1 (fits.1 ∙ h.2) (beyond (λ in_range. h.3 (in_reach s.tables.scale h.0 in_range)) refl)
unread_turn s n text BadLine h bytes is =
    let fits = held_some bytes text is in
    unread fits.0 (λ request at e. h request at (sym fits.1 ∙ e)) refl
unread_turn s n text _ h bytes is = absurd h
