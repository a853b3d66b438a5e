-- What the pieces of a line show about its reply.
use Rattle.std.proofs.Common.{◌≡◌, ◌≢◌, ℕ, ◌≤◌, List, [], ◌∷◌, ◌++◌, length, map, codes, Bool, true, ◌||◌, Option, None, Some, refl, sym, ap, ◌∙◌, subst}
use Rattle.std.specs.Prelude.{All, MatchOption}
use Rattle.std.specs.Fmt.{decimal}
use Rattle.std.specs.Str.{bytes_eq}
use Rattle.std.specs.List.{join_with_byte}
use Rattle.std.proofs.lemmas.Bool.{false≢true}
use Rattle.std.proofs.lemmas.List.{append_cancel_right, length-map}
use Rattle.std.proofs.lemmas.List.Splits.{join_with_byte-slice_split}
use Rattle.hub_letters.specs.Flags.{code_of}
use Rattle.hub_record.specs.declared.Kind as kinds
use Rattle.hub_record.specs.declared.Status.{Status}
use Rattle.hub_requests.specs.Texts.{line_of, number_or_dash, openness, pieces_about, text_of, word_of, word_of_kind, word_of_policy}
use Rattle.hub_requests.specs.declared.about.About as abouts
use Rattle.hub_requests.specs.declared.bounds.TheConstants.{LONGEST_REPLY}
use Rattle.hub_requests.specs.declared.reply.Reply.{Reply}
use Rattle.hub_requests.specs.declared.reply.Reply.TheVariants.{Done, Number, State, About, Got, Hit, Nothing, End, Evicted, Yes, Never, Late, Listed, No}
use Rattle.hub_requests.specs.declared.reply.Refusal.{Refusal}
use Rattle.hub_requests.specs.declared.reply.Refusal.TheVariants.{Unlawful}
use Rattle.hub_protocol.specs.declared.replies.BorrowedReply.{BorrowedReply}
use Rattle.hub_protocol.specs.declared.replies.BorrowedReply.TheVariants as shown
use Rattle.hub_protocol.specs.declared.reply_pieces.Head as heads
use Rattle.hub_protocol.specs.declared.reply_pieces.Head.TheVariants as head
use Rattle.hub_protocol.specs.Spelling.{IsName, fields_of}
use Rattle.hub_protocol.specs.Replies.{IsCount, IsLetter, IsOfHub, IsReadReply, IsSoundAbout, IsSoundRefusal, IsSoundReply, Shows}
use Rattle.hub_protocol.specs.ReplyLines.{AreCountTexts, IsBehind, IsCountText, IsPlain, IsPlainOf, IsRefusalOf, IsSaid, behind_of, head_of, text_of_head, words_of}
use Rattle.hub_protocol.proofs.Counts.{no_kind, numbers_of, texts_of}
use Rattle.hub_protocol.proofs.ReplyTexts.{line-pieces, pieces-line, visible_openness}
use Rattle.hub_protocol.proofs.SameReplies.{same_text}
use Rattle.hub_protocol.proofs.SameWords.{apart}
use Rattle.hub_protocol.proofs.Splits.{fields_of-one, no_fields, text_of_one}
use Rattle.hub_protocol.proofs.Visible.{one_field, visible_decimal}

-- ---- a text is read as one reply

pub read_back : (it : Reply) (read : Option BorrowedReply) → IsOfHub it → IsReadReply (text_of it) read → MatchOption read ⊥ (λ read. Shows read it)
read_back it None h is = is it h refl
read_back it (Some read) h is =
    let same : is.reply ≡ it = same_text is.reply it is.of_hub.sound h.sound (sym is.spelled) in
    subst (Shows read) same is.shows

-- the pieces of a line are the reply's exactly if the line is
pub read_said : (text line word : List ℕ) (pieces : List (List ℕ)) (found : Option BorrowedReply) → length text ≤ LONGEST_REPLY → text ≡ line ++ 10 ∷ []
    → fields_of line ≡ word ∷ pieces → IsBehind word pieces found → IsReadReply text found
read_said text line word pieces None short e f none = λ reply h is.
    let lines : line ≡ line_of reply = append_cancel_right line (line_of reply) (10 ∷ []) (sym e ∙ is) in
    let both : word ∷ pieces ≡ head_of reply ∷ behind_of reply = sym f ∙ ap fields_of lines ∙ pieces-line reply h.sound in
    let heads : head_of reply ≡ word = cc in
    let behinds : pieces ≡ behind_of reply = cc in
    none reply h.sound heads behinds
read_said text line word pieces (Some read) short e f said =
    let same : word ∷ pieces ≡ head_of said.reply ∷ behind_of said.reply = ap (λ w. w ∷ pieces) (sym said.head) ∙ ap (λ ps. head_of said.reply ∷ ps) said.behind in
    let whole : line ≡ line_of said.reply = sym (join_with_byte-slice_split 32 line) ∙ ap (join_with_byte 32) (f ∙ same) ∙ sym (line-pieces said.reply) in
    let spelled : text ≡ text_of said.reply = e ∙ ap (λ l. l ++ 10 ∷ []) whole in
    record {
      reply = said.reply;
      of_hub = record { sound = said.sound; short = subst (λ t. length t ≤ LONGEST_REPLY) spelled short };
      spelled = spelled;
      shows = said.shows;
    }

-- each reply begins with one of the words
pub some_head : (reply : Reply) → (head : heads.Head) × (head_of reply ≡ text_of_head head)
some_head Done = (head.Done, refl)
some_head (Number n) = (head.Done, refl)
some_head (State status) = (head.Done, refl)
some_head (About about) = (head.Done, refl)
some_head (Got letters) = (head.Got, refl)
some_head (Hit letters) = (head.Hit, refl)
some_head Nothing = (head.Nothing, refl)
some_head End = (head.End, refl)
some_head Evicted = (head.Evicted, refl)
some_head (Yes numbers) = (head.Yes, refl)
some_head Never = (head.Never, refl)
some_head Late = (head.Late, refl)
some_head (Listed names) = (head.Listed, refl)
some_head (No refusal) = (head.No, refl)

-- ---- a reply that is one word

-- the words that are a reply alone
abbrev pub is_alone : List ℕ → Bool
is_alone word = bytes_eq word (codes "none") || bytes_eq word (codes "end") || bytes_eq word (codes "evicted") || bytes_eq word (codes "never") || bytes_eq word (codes "late")

alone_behind : (reply : Reply) → is_alone (head_of reply) ≡ true → behind_of reply ≡ []
alone_behind Nothing h = refl
alone_behind End h = refl
alone_behind Evicted h = refl
alone_behind Never h = refl
alone_behind Late h = refl
alone_behind reply h = absurd (false≢true h)

alone_said : (reply : Reply) (read : BorrowedReply) (pieces : List (List ℕ)) (found : Option BorrowedReply) → IsSoundReply reply → Shows read reply → is_alone (head_of reply) ≡ true
    → MatchOption found (pieces ≢ []) (λ it. (it ≡ read) × (pieces ≡ [])) → IsBehind (head_of reply) pieces found
alone_said reply read pieces None sound shows alone none = λ other h w e. none (e ∙ alone_behind other (ap is_alone w ∙ alone))
alone_said reply read pieces (Some it) sound shows alone is =
    record { reply = reply; sound = sound; head = refl; behind = is.1 ∙ sym (alone_behind reply alone); shows = subst (λ s. Shows s reply) (sym is.0) shows }

-- what each of them shows
abbrev pub ShowsAlone : heads.Head → BorrowedReply → Type 0
ShowsAlone head.Nothing shown.Nothing = Unit {0}
ShowsAlone head.End shown.End = Unit {0}
ShowsAlone head.Evicted shown.Evicted = Unit {0}
ShowsAlone head.Never shown.Never = Unit {0}
ShowsAlone head.Late shown.Late = Unit {0}
ShowsAlone head read = ⊥

said_alone : (one : heads.Head) (read : BorrowedReply) (pieces : List (List ℕ)) (found : Option BorrowedReply) → ShowsAlone one read
    → MatchOption found (pieces ≢ []) (λ it. (it ≡ read) × (pieces ≡ [])) → IsBehind (text_of_head one) pieces found
said_alone head.Nothing shown.Nothing pieces found h is = alone_said Nothing shown.Nothing pieces found tt tt refl is
said_alone head.End shown.End pieces found h is = alone_said End shown.End pieces found tt tt refl is
said_alone head.Evicted shown.Evicted pieces found h is = alone_said Evicted shown.Evicted pieces found tt tt refl is
said_alone head.Never shown.Never pieces found h is = alone_said Never shown.Never pieces found tt tt refl is
said_alone head.Late shown.Late pieces found h is = alone_said Late shown.Late pieces found tt tt refl is
said_alone one read pieces found h is = absurd h

pub alone_head : (head one : heads.Head) (read : BorrowedReply) (pieces : List (List ℕ)) (found : Option BorrowedReply) → head ≡ one → ShowsAlone one read
    → MatchOption found (pieces ≢ []) (λ it. (it ≡ read) × (pieces ≡ [])) → IsBehind (text_of_head head) pieces found
alone_head head one read pieces found is h said = subst (λ h. IsBehind (text_of_head h) pieces found) (sym is) (said_alone one read pieces found h said)

-- ---- a reply with more behind its word

pub no_got : (pieces : List (List ℕ)) → ((letters : List ℕ) → All IsLetter letters → pieces ≢ letters ∷ []) → (reply : Reply) → IsSoundReply reply → head_of reply ≡ codes "got" → pieces ≢ behind_of reply
no_got pieces none (Got letters) h w e = none letters h e
no_got pieces none reply h w e = absurd (apart (head_of reply) (codes "got") refl w)

pub no_hit : (pieces : List (List ℕ)) → ((letters : List ℕ) → All IsLetter letters → pieces ≢ letters ∷ []) → (reply : Reply) → IsSoundReply reply → head_of reply ≡ codes "hit" → pieces ≢ behind_of reply
no_hit pieces none (Hit letters) h w e = none letters h e
no_hit pieces none reply h w e = absurd (apart (head_of reply) (codes "hit") refl w)

pub no_refusal : (pieces : List (List ℕ)) → ((refusal : Refusal) → IsSoundRefusal refusal → pieces ≢ words_of refusal) → (reply : Reply) → IsSoundReply reply → head_of reply ≡ codes "no" → pieces ≢ behind_of reply
no_refusal pieces none (No refusal) h w e = none refusal h e
no_refusal pieces none reply h w e = absurd (apart (head_of reply) (codes "no") refl w)

-- a refusal of two pieces is that of a place
pub no_place : (word place : List ℕ) → (word ≡ codes "unlawful" → (n : ℕ) → IsCount n → place ≢ decimal n) → (refusal : Refusal) → IsSoundRefusal refusal → word ∷ fields_of place ≢ words_of refusal
no_place word place none (Unlawful n) h e =
    let first : word ≡ codes "unlawful" = cc in
    let rest : fields_of place ≡ decimal n ∷ [] = cc in
    none first n h (text_of_one place (decimal n) rest)
no_place word place none refusal h e = let rest : fields_of place ≡ [] = cc in no_fields place rest

pub place_said : (word place : List ℕ) (n : ℕ) → IsCount n → word ≡ codes "unlawful" → place ≡ decimal n → IsSoundRefusal (Unlawful n) × (word ∷ fields_of place ≡ words_of (Unlawful n))
place_said word place n h w p =
    let digits : fields_of place ≡ decimal n ∷ [] = ap fields_of p ∙ fields_of-one (decimal n) (one_field (decimal n) (visible_decimal n h)) in
    (h, ap (λ first. first ∷ fields_of place) w ∙ ap (λ rest. codes "unlawful" ∷ rest) digits)

-- a refusal of one piece is that of a word
pub no_plain : (word : List ℕ) (pieces : List (List ℕ)) → pieces ≡ word ∷ [] → ((refusal : Refusal) → IsPlain refusal → word ≢ word_of refusal) → (refusal : Refusal) → IsSoundRefusal refusal → pieces ≢ words_of refusal
no_plain word pieces p none (Unlawful n) h e = cc
no_plain word pieces p none refusal h e = let same : word ≡ word_of refusal = cc in none refusal tt same

plain_refusal : (word : List ℕ) (pieces : List (List ℕ)) (refusal : Refusal) → pieces ≡ word ∷ [] → IsPlain refusal → word ≡ word_of refusal → IsSoundRefusal refusal × (pieces ≡ words_of refusal)
plain_refusal word pieces (Unlawful n) p h e = absurd h
plain_refusal word pieces refusal p h e = (tt, p ∙ ap (λ w. w ∷ []) e)

pub plain_said : (word : List ℕ) (pieces : List (List ℕ)) (found : Option Refusal) → pieces ≡ word ∷ [] → IsPlainOf word found → IsRefusalOf pieces found
plain_said word pieces None p none = no_plain word pieces p none
plain_said word pieces (Some refusal) p is = plain_refusal word pieces refusal p is.0 is.1

-- what is behind an `ok` and a number, if it is more
pub no_status : (number : ℕ) (pieces : List (List ℕ)) → IsCount number → pieces ≢ [] → ((status : Status) → pieces ≢ decimal (code_of status.flags) ∷ openness status.closed ∷ [])
    → (reply : Reply) → IsSoundReply reply → head_of reply ≡ codes "ok" → decimal number ∷ pieces ≢ behind_of reply
no_status number pieces small some none Done h w e = cc
no_status number pieces small some none (Number n) h w e = let rest : pieces ≡ [] = cc in some rest
no_status number pieces small some none (State status) h w e =
    let rest : pieces ≡ decimal (code_of status.flags) ∷ openness status.closed ∷ [] = cc in none status rest
no_status number pieces small some none (About about) h w e = let kind : decimal number ≡ word_of_kind about.kind = cc in no_kind number about.kind small kind
no_status number pieces small some none reply h w e = absurd (apart (head_of reply) (codes "ok") refl w)

-- what is behind an `ok`, if it is neither a kind nor a number
pub no_number : (word : List ℕ) (pieces : List (List ℕ)) → ((k : kinds.Kind) → word ≢ word_of_kind k) → ((n : ℕ) → IsCount n → word ≢ decimal n)
    → (reply : Reply) → IsSoundReply reply → head_of reply ≡ codes "ok" → word ∷ pieces ≢ behind_of reply
no_number word pieces other none Done h w e = cc
no_number word pieces other none (Number n) h w e = let digits : word ≡ decimal n = cc in none n h digits
no_number word pieces other none (State status) h w e = let digits : word ≡ decimal status.number = cc in none status.number h digits
no_number word pieces other none (About about) h w e = let kind : word ≡ word_of_kind about.kind = cc in other about.kind kind
no_number word pieces other none reply h w e = absurd (apart (head_of reply) (codes "ok") refl w)

-- what is told about a fifodir, from each piece on
abbrev pub from_pending : abouts.About → List (List ℕ)
from_pending it = decimal it.pending ∷ []

abbrev pub from_publishers : abouts.About → List (List ℕ)
from_publishers it = decimal it.publishers ∷ from_pending it

abbrev pub from_subscriptions : abouts.About → List (List ℕ)
from_subscriptions it = decimal it.subscriptions ∷ from_publishers it

abbrev pub from_policy : abouts.About → List (List ℕ)
from_policy it = word_of_policy it.policy ∷ from_subscriptions it

abbrev pub from_total : abouts.About → List (List ℕ)
from_total it = decimal it.total ∷ from_policy it

abbrev pub from_waiting : abouts.About → List (List ℕ)
from_waiting it = decimal it.waiting ∷ from_total it

-- lists with the same pieces have the same behind their first
pub behind_first : (x y : List ℕ) (xs ys : List (List ℕ)) → x ∷ xs ≡ y ∷ ys → xs ≡ ys
behind_first x y xs ys e = cc

-- what is behind an `ok` and a kind
pub no_about : (k : kinds.Kind) (pieces : List (List ℕ)) → ((about : abouts.About) → IsSoundAbout about → word_of_kind k ∷ pieces ≢ pieces_about about)
    → (reply : Reply) → IsSoundReply reply → head_of reply ≡ codes "ok" → word_of_kind k ∷ pieces ≢ behind_of reply
no_about k pieces none Done h w e = cc
no_about k pieces none (Number n) h w e = let digits : decimal n ≡ word_of_kind k = cc in no_kind n k h digits
no_about k pieces none (State status) h w e = let digits : decimal status.number ≡ word_of_kind k = cc in no_kind status.number k h digits
no_about k pieces none (About about) h w e = none about h e
no_about k pieces none reply h w e = absurd (apart (head_of reply) (codes "ok") refl w)

-- ---- numbers and names

pub counts_said : (text : List ℕ) (read : BorrowedReply) → AreCountTexts (fields_of text) → ((numbers : List (Option ℕ)) → text ≡ join_with_byte 32 (map number_or_dash numbers) → Shows read (Yes numbers))
    → IsSaid (codes "yes") (fields_of text) read
counts_said text read h shows =
    let of = numbers_of (fields_of text) h.each in
    let long : length (fields_of text) ≡ length of.numbers = ap length of.texts ∙ length-map of.numbers number_or_dash in
    record {
      reply = Yes of.numbers;
      sound = record { few = subst (λ n. n ≤ 32) long h.few; each = of.each };
      head = refl;
      behind = of.texts;
      shows = shows of.numbers (sym (join_with_byte-slice_split 32 text) ∙ ap (join_with_byte 32) of.texts);
    }

pub no_counts : (pieces : List (List ℕ)) → (AreCountTexts pieces → ⊥) → (reply : Reply) → IsSoundReply reply → head_of reply ≡ codes "yes" → pieces ≢ behind_of reply
no_counts pieces none (Yes numbers) h w e =
    none (record { few = subst (λ n. n ≤ 32) (sym (ap length e ∙ length-map numbers number_or_dash)) h.few; each = subst (All IsCountText) (sym e) (texts_of numbers h.each) })
no_counts pieces none reply h w e = absurd (apart (head_of reply) (codes "yes") refl w)

pub no_names : (pieces : List (List ℕ)) → (All IsName pieces → ⊥) → (reply : Reply) → IsSoundReply reply → head_of reply ≡ codes "names" → pieces ≢ behind_of reply
no_names pieces none (Listed names) h w e = none (subst (All IsName) (sym e) h)
no_names pieces none reply h w e = absurd (apart (head_of reply) (codes "names") refl w)

-- ---- whether a fifodir is closed

pub closed_said : (text : List ℕ) (pieces : List (List ℕ)) (found : Option Bool) → pieces ≡ fields_of text → MatchOption found ((closed : Bool) → text ≢ openness closed) (λ closed. text ≡ openness closed)
    → MatchOption found ((closed : Bool) → pieces ≢ openness closed ∷ []) (λ closed. pieces ≡ openness closed ∷ [])
closed_said text pieces None p none = λ closed e. none closed (text_of_one text (openness closed) (sym p ∙ e))
closed_said text pieces (Some closed) p is = p ∙ ap fields_of is ∙ fields_of-one (openness closed) (one_field (openness closed) (visible_openness closed))
