-- The line of a reply, as its list of pieces.
use Rattle.std.proofs.Common.{◌≡◌, ℕ, ◌<◌, ◌≤◌, List, [], ◌∷◌, ◌++◌, map, codes, Bool, true, false, Option, refl, sym, ap, ◌∙◌, arith}
use Rattle.std.specs.List.{join_with_byte}
use Rattle.hub_letters.specs.declared.flags.Flags.{Flags}
use Rattle.hub_letters.specs.Flags.{code_of, digit}
use Rattle.hub_record.specs.declared.Kind as kinds
use Rattle.hub_record.specs.declared.Kind.TheVariants as kind
use Rattle.hub_record.specs.declared.limits.Policy.{Policy}
use Rattle.hub_record.specs.declared.limits.Policy.TheVariants.{Hold, Evict}
use Rattle.hub_requests.specs.Names.{names_text}
use Rattle.hub_requests.specs.declared.about.About as abouts
use Rattle.hub_requests.specs.Texts.{line_of, number_or_dash, numbers_text, openness, pieces_about, text_of_flag, word_of, word_of_kind, word_of_policy}
use Rattle.hub_requests.specs.declared.reply.Reply.{Reply}
use Rattle.hub_requests.specs.declared.reply.Reply.TheVariants.{Done, Number, State, About, Got, Hit, Yes, Listed, No}
use Rattle.hub_requests.specs.declared.reply.Refusal.{Refusal}
use Rattle.hub_requests.specs.declared.reply.Refusal.TheVariants.{Unlawful}
use Rattle.hub_protocol.specs.Spelling.{fields_of}
use Rattle.hub_protocol.specs.Replies.{IsCount, IsSoundAbout, IsSoundRefusal, IsSoundReply}
use Rattle.hub_protocol.specs.ReplyLines.{behind_of, head_of, words_of}
use Rattle.hub_protocol.proofs.Counts.{visible_counts}
use Rattle.hub_protocol.proofs.FormLines.{fields_of-join}
use Rattle.hub_protocol.proofs.RequestTexts.{join-pieces}
use Rattle.hub_protocol.proofs.Visible.{AllVisible, AreVisible, visible_decimal, visible_name, visible_names}

numbers_text-names : (numbers : List (Option ℕ)) → numbers_text numbers ≡ names_text (map number_or_dash numbers)
numbers_text-names [] = refl
numbers_text-names (x ∷ xs) = ap (λ (t : List ℕ). 32 ∷ (number_or_dash x ++ t)) (numbers_text-names xs)

refusal-pieces : (refusal : Refusal) → line_of (No refusal) ≡ join_with_byte 32 (codes "no" ∷ words_of refusal)
refusal-pieces (Unlawful place) = refl
refusal-pieces refusal = refl

pub line-pieces : (reply : Reply) → line_of reply ≡ join_with_byte 32 (head_of reply ∷ behind_of reply)
line-pieces (Yes numbers) = ap (λ (t : List ℕ). codes "yes" ++ t) (numbers_text-names numbers) ∙ sym (join-pieces (codes "yes") (map number_or_dash numbers))
line-pieces (About about) = sym (join-pieces (codes "ok") (pieces_about about))
line-pieces (Listed names) = sym (join-pieces (codes "names") names)
line-pieces (No refusal) = refusal-pieces refusal
line-pieces reply = refl

-- ---- each piece is visible

pub small_digit : (b : Bool) → digit b ≤ 1
small_digit true = omega arith
small_digit false = omega arith

pub small_code : (flags : Flags) → IsCount (code_of flags)
small_code flags = omega (arith, small_digit flags.up, small_digit flags.settled, small_digit flags.supervised, small_digit flags.failed)

pub below_sixteen : (flags : Flags) → code_of flags < 16
below_sixteen flags = omega (arith, small_digit flags.up, small_digit flags.settled, small_digit flags.supervised, small_digit flags.failed)

pub visible_openness : (closed : Bool) → AreVisible (openness closed)
visible_openness true = visible_name (openness true) refl
visible_openness false = visible_name (openness false) refl

pub visible_kind : (k : kinds.Kind) → AreVisible (word_of_kind k)
visible_kind kind.Plain = visible_name (word_of_kind kind.Plain) refl
visible_kind kind.Service = visible_name (word_of_kind kind.Service) refl

pub visible_flag : (flag : Bool) → AreVisible (text_of_flag flag)
visible_flag true = visible_name (text_of_flag true) refl
visible_flag false = visible_name (text_of_flag false) refl

pub visible_policy : (policy : Policy) → AreVisible (word_of_policy policy)
visible_policy Hold = visible_name (word_of_policy Hold) refl
visible_policy Evict = visible_name (word_of_policy Evict) refl

visible_about : (about : abouts.About) → IsSoundAbout about → AllVisible (pieces_about about)
visible_about about h = (
  visible_kind about.kind,
  (
    visible_flag about.notifies,
    (
      visible_decimal about.waiting h.waiting,
      (
        visible_decimal about.total h.total,
        (
          visible_policy about.policy,
          (visible_decimal about.subscriptions h.subscriptions, (visible_decimal about.publishers h.publishers, (visible_decimal about.pending h.pending, tt))),
        ),
      ),
    ),
  ),
)

visible_refusal : (refusal : Refusal) → IsSoundRefusal refusal → AllVisible (words_of refusal)
visible_refusal (Unlawful place) h = (visible_name (codes "unlawful") refl, (visible_decimal place h, tt))
visible_refusal refusal h = (visible_name (word_of refusal) refl, tt)

visible_head : (reply : Reply) → AreVisible (head_of reply)
visible_head Done = visible_name (head_of Done) refl
visible_head reply = visible_name (head_of reply) refl

visible_behind : (reply : Reply) → IsSoundReply reply → AllVisible (behind_of reply)
visible_behind (Number n) h = (visible_decimal n h, tt)
visible_behind (State status) h = (visible_decimal status.number h, (visible_decimal (code_of status.flags) (small_code status.flags), (visible_openness status.closed, tt)))
visible_behind (About about) h = visible_about about h
visible_behind (Got letters) h = (h, tt)
visible_behind (Hit letters) h = (h, tt)
visible_behind (Yes numbers) h = visible_counts numbers h.each
visible_behind (Listed names) h = visible_names names h
visible_behind (No refusal) h = visible_refusal refusal h
visible_behind reply h = tt

-- the pieces are those of the line
pub pieces-line : (reply : Reply) → IsSoundReply reply → fields_of (line_of reply) ≡ head_of reply ∷ behind_of reply
pieces-line reply h = ap fields_of (line-pieces reply) ∙ fields_of-join (head_of reply) (behind_of reply) (visible_head reply, visible_behind reply h)
