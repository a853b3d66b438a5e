-- What replies tell.
use Rattle.std.proofs.Common.{◌≡◌, ◌≢◌, ◌<◌, List, [], ◌∷◌, ◌++◌, length, map, ℕ, ◌-◌, ◌==◌, nat_eq, nat_lt, ◌&&◌, count_by, Option, None, Some, true, false, refl, sym, ap, ◌∙◌, subst, append-nil, arith}
use Rattle.std.specs.List.{join_with_byte}
use Rattle.std.proofs.lemmas.Bool.{and_from, and_parts, eq-eqb, eqb-true, false≢true, lt-ltb, ltb-true}
use Rattle.std.proofs.lemmas.Fmt.{decimal_nonempty}
use Rattle.std.proofs.lemmas.List.{length-append, length-map}
use Rattle.std.proofs.lemmas.List.Elements.{All-head}
use Rattle.std.proofs.lemmas.List.Splits.{length-slice_split}
use Rattle.hub_requests.specs.Texts.{number_or_dash, text_of}
use Rattle.hub_requests.specs.declared.reply.Reply.{Reply}
use Rattle.hub_requests.specs.declared.reply.Reply.TheVariants as reply
use Rattle.hub_requests.specs.declared.reply.Refusal.TheVariants as refusal
use Rattle.hub_protocol.specs.declared.replies.BorrowedReply.{BorrowedReply}
use Rattle.hub_protocol.specs.declared.replies.BorrowedReply.TheVariants as shown
use Rattle.hub_protocol.specs.Replies.{AreCounts, IsCountOrNone, IsOfHub, IsShown, Shows}
use Rattle.hub_protocol.specs.Spelling.{fields_of, is_space}
use Rattle.hub_protocol.proofs.Counts.{visible_counts}
use Rattle.hub_protocol.proofs.FormLines.{fields_of-join}
use Rattle.hub_record.specs.declared.Status.{Status}
use Rattle.hub_protocol.proofs.SameReplies.{same_text}
use Rattle.hub_ask.specs.declared.outcome.Outcome.{Outcome}
use Rattle.hub_ask.specs.Outcomes.{RepliesToWait, Tells, TellsOfWait, has_count, outcome_of, outcome_read, replies_to_wait}

-- a line tells one outcome at most
pub one : (line : List ℕ) (a b : Outcome) → Tells line (Some a) → Tells line (Some b) → a ≡ b
one line a b p q =
    let same : p.reply ≡ q.reply = same_text p.reply q.reply p.of_hub.sound q.of_hub.sound (sym p.spelled ∙ q.spelled) in
    p.went ∙ ap outcome_of same ∙ sym q.went

-- each reply of a hub tells its outcome
pub of_reply : (it : Reply) → IsOfHub it → Tells (text_of it) (Some (outcome_of it))
of_reply it h = record { reply = it; of_hub = h; kind = tt; spelled = refl; went = refl }

pub of_wait : (services : ℕ) (it : Reply) → IsOfHub it → RepliesToWait services it → TellsOfWait services (text_of it) (Some (outcome_of it))
of_wait services it h kind = record { reply = it; of_hub = h; kind = kind; spelled = refl; went = refl }

-- ---- what is read of a line

pub same_outcome : (read : BorrowedReply) (it : Reply) → Shows read it → outcome_read read ≡ outcome_of it
same_outcome shown.Done reply.Done h = refl
same_outcome (shown.Number n) (reply.Number m) h = refl
same_outcome (shown.State s) (reply.State t) h = refl
same_outcome (shown.About about) (reply.About other) h = refl
same_outcome (shown.Got text) (reply.Got letters) h = refl
same_outcome (shown.Hit text) (reply.Hit letters) h = refl
same_outcome shown.Nothing reply.Nothing h = refl
same_outcome shown.End reply.End h = refl
same_outcome shown.Evicted reply.Evicted h = refl
same_outcome (shown.Yes text) (reply.Yes numbers) h = refl
same_outcome shown.Never reply.Never h = refl
same_outcome shown.Late reply.Late h = refl
same_outcome (shown.Listed text) (reply.Listed names) h = refl
same_outcome (shown.No refusal) (reply.No other) h = refl
same_outcome read it h = absurd h

-- ---- how many numbers a `yes` has

some_number : (number : Option ℕ) → IsCountOrNone number → 0 < length (number_or_dash number)
some_number None h = omega arith
some_number (Some n) h = decimal_nonempty n h

-- a text that begins with a number or a dash isn't empty
some_text : (number : Option ℕ) (text rest : List ℕ) → IsCountOrNone number → text ≡ number_or_dash number ++ rest → text ≢ []
some_text number text rest h e none =
    let nothing : length (number_or_dash number ++ rest) ≡ 0 = ap length (sym e ∙ none) in
    omega (arith, nothing, length-append (number_or_dash number) rest, some_number number h)

-- so many fields as it has are counted
count_of_fields : (text : List ℕ) (count : ℕ) → text ≢ [] → length (fields_of text) ≡ count → has_count text count ≡ true
count_of_fields [] count some is = absurd (some refl)
count_of_fields (byte ∷ bytes) count some is =
    and_from (nat_lt 0 count) (count_by is_space (byte ∷ bytes) == count - 1) (lt-ltb 0 count (omega (arith, is, length-slice_split is_space (byte ∷ bytes))))
    (eq-eqb (count_by is_space (byte ∷ bytes)) (count - 1) (omega (arith, is, length-slice_split is_space (byte ∷ bytes))))

-- and no other number of them
fields_of_count : (text : List ℕ) (count : ℕ) → text ≢ [] → has_count text count ≡ true → length (fields_of text) ≡ count
fields_of_count [] count some is = absurd (some refl)
fields_of_count (byte ∷ bytes) count some is =
    let both = and_parts (nat_lt 0 count) (count_by is_space (byte ∷ bytes) == count - 1) is in
    let more = ltb-true 0 count both.0 in
    let same = eqb-true (count_by is_space (byte ∷ bytes)) (count - 1) both.1 in
    omega (arith, length-slice_split is_space (byte ∷ bytes), more, same)

-- the test of the code
pub is_counted : (text : List ℕ) (count spaces : ℕ) → (length text == 0) ≡ false → 0 < count → spaces ≡ count_by is_space text → nat_eq spaces (count - 1) ≡ has_count text count
is_counted [] count spaces some more is = absurd (false≢true (sym some))
is_counted (byte ∷ bytes) count spaces some more is =
    ap (λ n. nat_eq n (count - 1)) is ∙ sym (ap (λ t. t && (count_by is_space (byte ∷ bytes) == count - 1)) (lt-ltb 0 count more))

-- the numbers of a `yes` are the fields of its text
fields_of_numbers : (number : Option ℕ) (numbers : List (Option ℕ)) (text : List ℕ) → AreCounts (number ∷ numbers)
    → text ≡ join_with_byte 32 (map number_or_dash (number ∷ numbers)) → length (fields_of text) ≡ length (number ∷ numbers)
fields_of_numbers number numbers text h e =
    let visible = visible_counts (number ∷ numbers) h.each in
    ap length (ap fields_of e ∙ fields_of-join (number_or_dash number) (map number_or_dash numbers) visible) ∙ length-map (number ∷ numbers) number_or_dash

-- a `yes` has a text if it has a number
some_numbers : (number : Option ℕ) (numbers : List (Option ℕ)) (text : List ℕ) → AreCounts (number ∷ numbers)
    → text ≡ join_with_byte 32 (map number_or_dash (number ∷ numbers)) → text ≢ []
some_numbers number [] text h e = some_text number text [] (All-head IsCountOrNone number [] h.each) (e ∙ sym (append-nil (number_or_dash number)))
some_numbers number (next ∷ numbers) text h e =
    some_text number text (32 ∷ join_with_byte 32 (map number_or_dash (next ∷ numbers))) (All-head IsCountOrNone number (next ∷ numbers) h.each) e

pub counts_numbers : (numbers : List (Option ℕ)) (text : List ℕ) (services : ℕ) → AreCounts numbers → text ≡ join_with_byte 32 (map number_or_dash numbers)
    → has_count text services ≡ true → length numbers ≡ services
counts_numbers [] text services h e is = sym (eqb-true services 0 (subst (λ t. has_count t services ≡ true) e is))
counts_numbers (number ∷ numbers) text services h e is =
    sym (fields_of_numbers number numbers text h e) ∙ fields_of_count text services (some_numbers number numbers text h e) is

pub numbers_counted : (numbers : List (Option ℕ)) (text : List ℕ) (services : ℕ) → AreCounts numbers → text ≡ join_with_byte 32 (map number_or_dash numbers)
    → length numbers ≡ services → has_count text services ≡ true
numbers_counted [] text services h e is = subst (λ t. has_count t services ≡ true) (sym e) (eq-eqb services 0 (sym is))
numbers_counted (number ∷ numbers) text services h e is =
    count_of_fields text services (some_numbers number numbers text h e) (fields_of_numbers number numbers text h e ∙ is)

to_wait : (services : ℕ) (read : BorrowedReply) (it : Reply) → IsOfHub it → Shows read it → replies_to_wait services read ≡ true → RepliesToWait services it
to_wait services (shown.Yes text) (reply.Yes numbers) of h e = counts_numbers numbers text.now services of.sound h e
to_wait services shown.Never reply.Never of h e = tt
to_wait services shown.Late reply.Late of h e = tt
to_wait services (shown.No refusal) (reply.No other) of h e = tt
to_wait services (shown.Yes text) it of h e = absurd h
to_wait services shown.Never it of h e = absurd h
to_wait services shown.Late it of h e = absurd h
to_wait services (shown.No refusal) it of h e = absurd h
to_wait services read it of h e = absurd (false≢true e)

not_to_wait : (services : ℕ) (read : BorrowedReply) (it : Reply) → IsOfHub it → Shows read it → replies_to_wait services read ≡ false → RepliesToWait services it → ⊥
not_to_wait services (shown.Yes text) (reply.Yes numbers) of h e kind = false≢true (sym e ∙ numbers_counted numbers text.now services of.sound h kind)
not_to_wait services shown.Never reply.Never of h e kind = false≢true (sym e)
not_to_wait services shown.Late reply.Late of h e kind = false≢true (sym e)
not_to_wait services (shown.No refusal) (reply.No other) of h e kind = false≢true (sym e)
not_to_wait services read (reply.Yes numbers) of h e kind = h
not_to_wait services read reply.Never of h e kind = h
not_to_wait services read reply.Late of h e kind = h
not_to_wait services read (reply.No other) of h e kind = h
not_to_wait services read it of h e kind = kind

pub told : (line : List ℕ) (read : BorrowedReply) (outcome : Outcome) → IsShown line read → outcome ≡ outcome_read read → Tells line (Some outcome)
told line read outcome is went =
    record { reply = is.reply; of_hub = is.of_hub; kind = tt; spelled = is.spelled; went = went ∙ same_outcome read is.reply is.shows }

pub told_of_wait : (services : ℕ) (line : List ℕ) (read : BorrowedReply) (outcome : Outcome) → IsShown line read → replies_to_wait services read ≡ true → outcome ≡ outcome_read read → TellsOfWait services line (Some outcome)
told_of_wait services line read outcome is for_wait went =
    record { reply = is.reply; of_hub = is.of_hub; kind = to_wait services read is.reply is.of_hub is.shows for_wait; spelled = is.spelled; went = went ∙ same_outcome read is.reply is.shows }

-- a line shows one reply
same_shown : (line : List ℕ) (read : BorrowedReply) (it : Reply) → IsShown line read → IsOfHub it → line ≡ text_of it → Shows read it
same_shown line read it is h e =
    subst (Shows read) (same_text is.reply it is.of_hub.sound h.sound (sym is.spelled ∙ e)) is.shows

pub told_no_wait : (services : ℕ) (line : List ℕ) (read : BorrowedReply) → IsShown line read → replies_to_wait services read ≡ false → (it : Reply) → IsOfHub it → RepliesToWait services it → line ≢ text_of it
told_no_wait services line read is other it h kind e = not_to_wait services read it h (same_shown line read it is h e) other kind

-- ---- a status

shows_state : (read : BorrowedReply) (it : Status) → Shows read (reply.State it) → (s : Status) × (read ≡ shown.State s)
shows_state (shown.State s) it h = (s, refl)
shows_state read it h = absurd h

pub no_state : (line : List ℕ) (read : BorrowedReply) → IsShown line read → ((s : Status) → read ≢ shown.State s) → (it : Status) → IsOfHub (reply.State it) → line ≢ text_of (reply.State it)
no_state line read is other it h e = let (s, same) = shows_state read it (same_shown line read (reply.State it) is h e) in other s same

-- ---- what a wait may go on after

is_no_name : (it : Reply) → Shows (shown.No refusal.Name) it → it ≡ reply.No refusal.Name
is_no_name (reply.No other) h = ap (λ r. reply.No r) (sym h)
is_no_name it h = absurd h

is_late : (it : Reply) → Shows shown.Late it → it ≡ reply.Late
is_late reply.Late h = refl
is_late it h = absurd h

pub tells_no_name : (line : List ℕ) → IsShown line (shown.No refusal.Name) → line ≡ text_of (reply.No refusal.Name)
tells_no_name line is = is.spelled ∙ ap text_of (is_no_name is.reply is.shows)

pub tells_late : (line : List ℕ) → IsShown line shown.Late → line ≡ text_of reply.Late
tells_late line is = is.spelled ∙ ap text_of (is_late is.reply is.shows)
