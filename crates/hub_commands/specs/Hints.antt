-- What a person may do about a refusal of `ask`.
use Rattle.std.specs.Prelude.{◌≡◌, ℕ, ◌==◌, List, ◌∷◌, [], ◌++◌, take, position, if◌then◌else◌, codes, Option, None, Some}
use Rattle.std.specs.Str.{bytes_eq}
use Rattle.hub_ask.specs.Streams.{IsToldTo}
use Rattle.hub_protocol.specs.declared.replies.BorrowedReply.{BorrowedReply}
use Rattle.hub_protocol.specs.declared.replies.BorrowedReply.TheVariants as shown
use Rattle.hub_requests.specs.declared.reply.Reply.{Reply}
use Rattle.hub_requests.specs.declared.reply.Reply.TheVariants as reply
use Rattle.hub_requests.specs.declared.reply.Refusal.{Refusal}
use Rattle.hub_requests.specs.declared.reply.Refusal.TheVariants.{Long, Text, Word, Form, Range, Right, Name, Exists, Kind, Id, Many, Spent, Closed, Unlawful, Full, Pattern, Overlong, Memory}
use Rattle.hub_io.specs.Counted.{Writing}
use Rattle.hub_commands.specs.declared.hinting.TheConstants.{FORMS}

-- ---- the hint

-- the line up to this place, or all of it
abbrev pub up_to : List ℕ → Option ℕ → List ℕ
up_to line None = line
up_to line (Some end) = take end line

-- what is before the first space
abbrev pub first_word : List ℕ → List ℕ
first_word line = up_to line (position (λ byte. byte == 32) line)

-- the line of this hint
abbrev pub hint : List ℕ → List ℕ
hint text = codes "ftrighub: " ++ (text ++ 10 ∷ [])

-- the hint of the first of these forms that has the word, or where all forms are
abbrev pub hint_in : {Form : Type 0} → (named hinted : Form → List ℕ) → List Form → (word : List ℕ) → List ℕ
hint_in named hinted [] word = hint (codes "the forms are in `ftrighub script --help`")
hint_in named hinted (form ∷ forms) word = if bytes_eq (named form) word then hinted form else hint_in named hinted forms word

-- the hint at the form of the word
abbrev pub form_hint : List ℕ → List ℕ
form_hint word = hint_in (λ form. form.0.now) (λ form. form.1.now) FORMS.now word

-- the hint at a refusal of the line
abbrev pub hint_of : (line : List ℕ) → Refusal → List ℕ
hint_of line Long = hint (codes "a line has at most 512 bytes: publish a long message in several")
hint_of line Text = hint (codes "a line has the bytes from space to ~, and no tab or UTF-8")
hint_of line Word = hint (codes "the words are dir svc sub pub tell will take cancel close status about listen poll await next wait names")
hint_of line Form = form_hint (first_word line)
hint_of line Range = hint (codes "W is 1 to 4096, T 1 to 1000000000000, R 0 or 1, MAX 1 to 256, TURNS 0 to 1000000")
hint_of line Right = hint (codes "this socket only looks: ask at the hub's own socket")
hint_of line Name = hint (codes "there is no such fifodir: make it by `ftrighub make NAME`")
hint_of line Exists = hint (codes "there is such a fifodir: `ftrighub ask about NAME` shows it")
hint_of line Kind = hint (codes "this fifodir isn't a service's: make one by `ftrighub make NAME`")
hint_of line Id = hint (codes "a handle is of one session, and `ask` ends its session: use `ftrighub call`")
hint_of line Many = hint (codes "a limit of the hub is reached: end sessions or subscriptions")
hint_of line Spent = hint (codes "this fifodir has no numbers left: make a new one")
hint_of line Closed = hint (codes "this fifodir is closed, and nothing opens it: make a new one")
hint_of line (Unlawful place) = hint (codes "a service can't do that now: `ftrighub status NAME` shows its state")
hint_of line Full = hint (codes "too many events are pending: retry once the subscribers have taken some")
hint_of line Pattern = hint (codes "the pattern isn't a regular expression, or is too large")
hint_of line Overlong = hint (codes "4096 letters came without a hit: cancel the listener, and listen again")
hint_of line Memory = hint (codes "the hub has no memory left: retry")

-- ---- when there is one

-- why a request is refused by this reply
abbrev pub refusal_of : Reply → Option Refusal
refusal_of (reply.No refusal) = Some refusal
refusal_of other = None

-- the same of a reply that was read, as the code has it
abbrev pub refusal_in : BorrowedReply → Option Refusal
refusal_in (shown.No refusal) = Some refusal
refusal_in other = None

-- The hint at a refusal is noted, and without one nothing is.
abbrev pub Hints : {F : Type 0} → Writing F → (notes note : F) → (line : List ℕ) → Option Refusal → Type 0
Hints n notes note line None = note ≡ notes
Hints n notes note line (Some refusal) = IsToldTo (n.contents notes) (n.contents note) (n.faults notes) (n.faults note) (hint_of line refusal)
