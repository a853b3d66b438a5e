-- The turns of a relay.
use Rattle.std.proofs.Common.{◌≡◌, ◌≢◌, ℕ, ◌+◌, ◌<◌, ◌≤◌, false, true, List, [], ◌∷◌, ◌++◌, length, take, Option, Result, Ok, Err, inl, inr, refl, sym, ap, ◌∙◌, subst, arith, append-nil, append_assoc, length-append}
use Rattle.std.proofs.Math.Seq.{take-append_seam}
use Rattle.std.proofs.lemmas.Bool.{false≢true}
use denote.Enum.Bare.{sameb}
use Rattle.std.specs.Io.KnownBytes.{Appends, IsAtEnd}
use Rattle.std.proofs.KnownBytes.{Consumes-nil, Appends-nil, Appends-trans}
use Rattle.hub_io.specs.declared.reading.TheConstants.{CHUNK, MAX_READS}
use Rattle.hub_io.specs.Telling.{Rises}
use Rattle.hub_io.proofs.Told.{Grows-none, Rises-add}
use Rattle.hub_client.specs.contracts.passing.Passed.{the_type}
use Rattle.hub_client.specs.declared.passing.Passed.{Passed}
use Rattle.hub_client.specs.declared.passing.Passed.TheVariants.{Line, Part, Nothing}
use Rattle.hub_client.specs.declared.fault.RelayError.{RelayError}
use Rattle.hub_client.specs.declared.fault.RelayError.TheVariants.{Input, Output, Send, Receive, Ended, Turns, Memory}
use Rattle.hub_client.specs.Relaying.{ended_lines, line_count, writable, Finished, Stopped, StopsAt, AreAnswered, AwaitsReply, ReadsWithin}
use Rattle.hub_io.specs.Lines.{has_lf, IsLine, complete_of, rest_of, lines_of}
use Rattle.hub_io.proofs.Lines.{has_lf-append}
use Rattle.hub_client.specs.Passing.{Moves}
use Rattle.hub_client.specs.UnderWay.{slack_for, FailsToSend, FailsToReceive, AreCut, HasPassed, HasSent, IsUnderWay}
use Rattle.hub_client.proofs.Directions.{has_passed_none, consumed_all, least_all, passes_line}
use Rattle.hub_client.proofs.Writable.{writable-ended, writable_at, writable_short}
use Rattle.hub_client.proofs.EndedLines.{front, part_short, ended-append, complete-ended, lines-ended, count-ended, count-ended_part}

-- ---- how much of a line passed

pub is_nothing : (passed : Passed) → sameb the_type passed Nothing ≡ true → passed ≡ Nothing
is_nothing Line e = absurd (false≢true e)
is_nothing Part e = absurd (false≢true e)
is_nothing Nothing e = refl

pub is_some : (passed : Passed) → sameb the_type passed Nothing ≡ false → passed ≢ Nothing
is_some passed e is = false≢true (sym e ∙ ap (λ it. sameb the_type it Nothing) is)

pub is_part : (passed : Passed) → sameb the_type passed Part ≡ true → passed ≡ Part
is_part Line e = absurd (false≢true e)
is_part Part e = refl
is_part Nothing e = absurd (false≢true e)

pub is_line : (passed : Passed) → sameb the_type passed Nothing ≡ false → sameb the_type passed Part ≡ false → passed ≡ Line
is_line Line e f = refl
is_line Part e f = absurd (false≢true (sym f))
is_line Nothing e f = absurd (false≢true (sym e))

-- ---- replies

first_replies : (replies more : List (List ℕ)) (count : ℕ) → length replies ≡ count → take count (replies ++ more) ≡ replies
first_replies replies more count e = ap (λ n. take n (replies ++ more)) (sym e) ∙ take-append_seam replies more

are_answered : (sent : List ℕ) (replies : List (List ℕ)) (pending : List ℕ) → AreCut replies → line_count sent ≡ length replies
    → AreAnswered sent (ended_lines replies ++ pending) (ended_lines replies)
are_answered sent replies pending cut same =
    let all : complete_of (ended_lines replies ++ pending) ≡ replies ++ complete_of pending = complete-ended replies pending cut in
    record {
      enough = omega (arith, same, ap length all, length-append replies (complete_of pending));
      replies = ap ended_lines (sym (ap (take (line_count sent)) all ∙ first_replies replies (complete_of pending) (line_count sent) (sym same)));
    }

-- each line was sent and answered, and the input has ended
pub finish : {had has held holds had' has' held' holds' : Option (List ℕ)} {made makes made' makes' : Option ℕ} {pending : List ℕ} {count reads reads' : ℕ}
    → HasSent had has held holds made makes [] count reads → HasPassed had' has' held' holds' made' makes' pending count reads' → IsAtEnd has
    → Finished had has held holds had' has' held' holds' count
finish {held = held} {holds} {held' = held'} {holds'} {pending = pending} {count} s p end =
    let lines : lines_of s.input ≡ s.lines = s.split ∙ append-nil s.lines in
    let all : complete_of (ended_lines p.lines ++ pending) ≡ p.lines ++ complete_of pending = complete-ended p.lines pending p.cut in
    let replies : take count (complete_of (ended_lines p.lines ++ pending)) ≡ p.lines = ap (take count) all ∙ first_replies p.lines (complete_of pending) count p.counted in
    record {
      input = s.input;
      heard = ended_lines p.lines ++ pending;
      sent = record { consumed = s.consumed; appended = subst (Appends held holds) (ap ended_lines (sym lines)) s.appended };
      whole = end;
      counted = sym s.counted ∙ ap length (sym lines);
      answered = omega (arith, p.counted, ap length all, length-append p.lines (complete_of pending));
      written = record { consumed = p.consumed; appended = subst (Appends held' holds') (ap ended_lines (sym replies)) p.appended };
    }

-- ---- faults

send_short : (lines : List (List ℕ)) (passed rest : List ℕ) → AreCut lines → has_lf passed ≡ false → 1 ≤ length (passed ++ rest)
    → length (ended_lines lines ++ passed) < length (ended_lines (lines_of ((ended_lines lines ++ passed) ++ rest)))
send_short lines passed rest c cut some =
    let all : ended_lines (lines_of ((ended_lines lines ++ passed) ++ rest)) ≡ ended_lines lines ++ ended_lines (lines_of (passed ++ rest)) =
    ap (λ l. ended_lines (lines_of l)) (append_assoc (ended_lines lines) passed rest) ∙ ap ended_lines (lines-ended lines (passed ++ rest) c) ∙ ended-append lines (lines_of (passed ++ rest)) in
    omega (arith, part_short passed rest cut some, ap length all, length-append (ended_lines lines) passed, length-append (ended_lines lines) (ended_lines (lines_of (passed ++ rest))))

nothing_left : (bytes rest : List ℕ) → rest ≡ [] → bytes ≡ bytes ++ rest
nothing_left bytes rest none = sym (append-nil bytes) ∙ ap (λ l. bytes ++ l) (sym none)

answered_part : (lines replies : List (List ℕ)) (passed pending : List ℕ) → AreCut lines → AreCut replies → has_lf passed ≡ false → length lines ≡ length replies
    → AreAnswered (ended_lines lines ++ passed) (ended_lines replies ++ pending) (ended_lines replies)
answered_part lines replies passed pending c d cut same = are_answered (ended_lines lines ++ passed) replies pending d (count-ended_part lines passed c cut ∙ same)

awaits : (lines replies : List (List ℕ)) (passed rest due : List ℕ) → AreCut lines → AreCut replies → has_lf passed ≡ false → has_lf rest ≡ false → length lines ≡ length replies + 1 → due ≡ [] → writable (passed ++ rest) ≡ passed ++ due
    → AwaitsReply (ended_lines lines) ((ended_lines replies ++ passed) ++ rest) (ended_lines replies ++ passed)
awaits lines replies passed rest due c d cut cut' one none e =
    let heard = (ended_lines replies ++ passed) ++ rest in
    let all : heard ≡ ended_lines replies ++ (passed ++ rest) = append_assoc (ended_lines replies) passed rest in
    let is : ended_lines replies ++ passed ≡ writable heard = nothing_left (ended_lines replies ++ passed) due none ∙ sym (writable_at replies passed rest due d e) in
    let no_lf : has_lf (passed ++ rest) ≡ false = has_lf-append passed rest cut ∙ cut' in
    record {
      passed = is;
      withheld = λ (short : length (rest_of heard) < CHUNK). is ∙ writable_short heard short;
      missing = omega (arith, count-ended lines c, one, count-ended_part replies (passed ++ rest) d no_lf, ap line_count all);
    }

-- The sending of the next line failed. a and b are the two directions before it.
module _ {had mid has held between had' has' held' holds' : Option (List ℕ)} {made much makes made' makes' : Option ℕ} {before rest passed pending' : List ℕ} {count reads reads' left left' : ℕ}
    (a : HasPassed had mid held between made much before count reads) (b : HasPassed had' has' held' holds' made' makes' pending' count reads') (cut : has_lf passed ≡ false) where
  send_stops_at : (e : RelayError) → Moves mid has much makes before rest left left' (slack_for e) passed → FailsToSend e passed rest left' → reads + reads' + left ≡ MAX_READS
      → StopsAt ((ended_lines a.lines ++ passed) ++ rest) (ended_lines a.lines ++ passed) (ended_lines b.lines ++ pending') (ended_lines b.lines) has' e
  send_stops_at Input m f spent = (nothing_left (ended_lines a.lines ++ passed) rest f, answered_part a.lines b.lines passed pending' a.cut b.cut cut (a.counted ∙ sym b.counted))
  send_stops_at Output m f spent = absurd f
  send_stops_at Send m f spent = (send_short a.lines passed rest a.cut cut f, answered_part a.lines b.lines passed pending' a.cut b.cut cut (a.counted ∙ sym b.counted))
  send_stops_at Receive m f spent = absurd f
  send_stops_at Ended m f spent = absurd f
  send_stops_at Turns m f spent = (omega (arith, least_all a m, b.least, m.spent, f.1), inl (nothing_left (ended_lines a.lines ++ passed) rest f.0, answered_part a.lines b.lines passed pending' a.cut b.cut cut (a.counted ∙ sym b.counted)))
  send_stops_at Memory m f spent = absurd f

  pub send_stops : {holds : Option (List ℕ)} (e : RelayError) → Moves mid has much makes before rest left left' (slack_for e) passed → FailsToSend e passed rest left' → reads + reads' + left ≡ MAX_READS
      → Appends between holds passed → Stopped had has held holds had' has' held' holds' e
  send_stops {holds} e m f spent appended =
      let (ending, lines) = front ((ended_lines a.lines ++ passed) ++ rest) in
      record {
        input = (ended_lines a.lines ++ passed) ++ rest;
        sent = ended_lines a.lines ++ passed;
        unsent = rest ++ ending;
        lines = record { consumed = consumed_all a m; appended = Appends-trans held between holds (ended_lines a.lines) passed a.appended appended };
        sent_front = lines ∙ append_assoc (ended_lines a.lines ++ passed) rest ending;
        heard = ended_lines b.lines ++ pending';
        written = ended_lines b.lines;
        unwritten = pending';
        replies = record { consumed = b.consumed; appended = b.appended };
        written_front = refl;
        due = writable pending';
        writable_front = writable-ended b.lines pending' b.cut;
        stopped = send_stops_at e m f spent;
      }

-- The receiving of a reply failed. s are the lines that were sent, and b are the replies before it.
module _ {had has held holds had' mid' has' held' between' : Option (List ℕ)} {made makes made' much' makes' : Option ℕ} {more : List (List ℕ)} {before rest passed : List ℕ} {count reads reads' left left' : ℕ}
    (s : HasSent had has held holds made makes more (count + 1) reads) (b : HasPassed had' mid' held' between' made' much' before count reads') (cut : has_lf passed ≡ false)
    (due : List ℕ) (e : writable (passed ++ rest) ≡ passed ++ due) where
  receive_stops_at : (fault : RelayError) → Moves mid' has' much' makes' before rest left left' (slack_for fault) passed → FailsToReceive fault due rest has' left' → reads + reads' + left ≡ MAX_READS
      → StopsAt s.input (ended_lines s.lines) ((ended_lines b.lines ++ passed) ++ rest) (ended_lines b.lines ++ passed) has' fault
  receive_stops_at Input m f spent = absurd f
  receive_stops_at Output m f spent = (
    omega (arith, f, ap length (writable_at b.lines passed rest due b.cut e), length-append (ended_lines b.lines ++ passed) due),
    omega (arith, count-ended s.lines s.cut, s.counted, b.counted, count-ended_part b.lines passed b.cut cut),
  )
  receive_stops_at Send m f spent = absurd f
  receive_stops_at Receive m f spent = awaits s.lines b.lines passed rest due s.cut b.cut cut f.1 (omega (arith, s.counted, b.counted)) f.0 e
  receive_stops_at Ended m f spent = (awaits s.lines b.lines passed rest due s.cut b.cut cut f.1 (omega (arith, s.counted, b.counted)) f.0 e, f.2)
  receive_stops_at Turns m f spent = (omega (arith, s.least, least_all b m, m.spent, f.2), inr (awaits s.lines b.lines passed rest due s.cut b.cut cut f.1 (omega (arith, s.counted, b.counted)) f.0 e))
  receive_stops_at Memory m f spent = absurd f

  pub receive_stops : {holds' : Option (List ℕ)} (fault : RelayError) → Moves mid' has' much' makes' before rest left left' (slack_for fault) passed → FailsToReceive fault due rest has' left' → reads + reads' + left ≡ MAX_READS
      → Appends between' holds' passed → Stopped had has held holds had' has' held' holds' fault
  receive_stops {holds'} fault m f spent appended = record {
    input = s.input;
    sent = ended_lines s.lines;
    unsent = ended_lines more;
    lines = record { consumed = s.consumed; appended = s.appended };
    sent_front = ap ended_lines s.split ∙ ended-append s.lines more;
    heard = (ended_lines b.lines ++ passed) ++ rest;
    written = ended_lines b.lines ++ passed;
    unwritten = rest;
    replies = record { consumed = consumed_all b m; appended = Appends-trans held' between' holds' (ended_lines b.lines) passed b.appended appended };
    written_front = refl;
    due = due;
    writable_front = writable_at b.lines passed rest due b.cut e;
    stopped = receive_stops_at fault m f spent;
  }

-- ---- between two turns

pub begins : (has held has' held' : Option (List ℕ)) (makes makes' : Option ℕ) (pending pending' : List ℕ) → pending ≡ [] → pending' ≡ []
    → IsUnderWay has has held held has' has' held' held' makes makes makes' makes' pending pending' 0 MAX_READS
begins has held has' held' makes makes' pending pending' empty empty' = record {
  reads = 0;
  reads' = 0;
  asked = has_passed_none has held makes pending empty;
  answered = has_passed_none has' held' makes' pending' empty';
  spent = omega arith;
  few = omega (arith, ap length empty);
}

line_some : (passed : List ℕ) → IsLine passed → 1 ≤ length passed
line_some passed line = omega (arith, ap length line.ends, length-append line.line (10 ∷ []))

-- a line was sent and its reply written
pub goes_on : {had mid has held between holds had' mid' has' held' between' holds' : Option (List ℕ)} {made much makes made' much' makes' : Option ℕ} {before after passed before' after' passed' : List ℕ} {count left some left' : ℕ}
    → IsUnderWay had mid held between had' mid' held' between' made much made' much' before before' count left
    → Moves mid has much makes before after left some 0 passed → IsLine passed → Appends between holds passed
    → Moves mid' has' much' makes' before' after' some left' 0 passed' → IsLine passed' → Appends between' holds' passed'
    → IsUnderWay had has held holds had' has' held' holds' made makes made' makes' after after' (count + 1) left'
goes_on {before = before} {after} {passed} u m line appended m' line' appended' = record {
  reads = u.reads + m.reads;
  reads' = u.reads' + m'.reads;
  asked = passes_line u.asked m line appended;
  answered = passes_line u.answered m' line' appended';
  spent = omega (arith, u.spent, m.spent, m'.spent);
  few = omega (arith, u.few, m.spent, m'.spent, m.most, ap length m.kept, length-append before m.bytes, length-append passed after, line_some passed line);
}

within : {T : Type 0} (made makes made' makes' : Option ℕ) (r : Result T RelayError) (n m left : ℕ) → n + m + left ≡ MAX_READS → Rises made makes n → Rises made' makes' m → (r ≡ Err Turns → left ≡ 0)
    → ReadsWithin made makes made' makes' r
within made makes made' makes' r n m left spent told told' turns = (n, m, omega arith, told, told', λ e. let none : left ≡ 0 = turns e in omega arith)

-- the next line was read
pub reads_line : {had mid has held between had' has' held' holds' : Option (List ℕ)} {made much makes made' makes' : Option ℕ} {before after passed pending' : List ℕ} {count left left' slack : ℕ} {T : Type 0} (r : Result T RelayError)
    → IsUnderWay had mid held between had' has' held' holds' made much made' makes' before pending' count left → Moves mid has much makes before after left left' slack passed
    → (r ≡ Err Turns → left' ≡ 0) → ReadsWithin made makes made' makes' r
reads_line {made = made} {much} {makes} {made'} {makes'} {left' = left'} r u m turns =
    within made makes made' makes' r (u.reads + m.reads) u.reads' left' (omega (arith, u.spent, m.spent)) (Rises-add made much makes u.reads m.reads u.asked.told m.told) u.answered.told turns

-- the next line was read, and then its reply
pub reads_reply : {had mid has held between had' mid' has' held' between' : Option (List ℕ)} {made much makes made' much' makes' : Option ℕ} {before after passed before' after' passed' : List ℕ} {count left some left' slack slack' : ℕ} {T : Type 0} (r : Result T RelayError)
    → IsUnderWay had mid held between had' mid' held' between' made much made' much' before before' count left → Moves mid has much makes before after left some slack passed
    → Moves mid' has' much' makes' before' after' some left' slack' passed' → (r ≡ Err Turns → left' ≡ 0) → ReadsWithin made makes made' makes' r
reads_reply {made = made} {much} {makes} {made'} {much'} {makes'} {left' = left'} r u m n turns =
    within made makes made' makes' r (u.reads + m.reads) (u.reads' + n.reads) left' (omega (arith, u.spent, m.spent, n.spent)) (Rises-add made much makes u.reads m.reads u.asked.told m.told)
    (Rises-add made' much' makes' u.reads' n.reads u.answered.told n.told) turns

-- nothing was read
pub reads_nothing : {T : Type 0} (makes makes' : Option ℕ) (r : Result T RelayError) → r ≢ Err Turns → ReadsWithin makes makes makes' makes' r
reads_nothing makes makes' r other = within makes makes makes' makes' r 0 0 MAX_READS refl (Grows-none makes) (Grows-none makes') (λ turns. absurd (other turns))

pub ok_is_no_error : (P : Type 0) (n : ℕ) (e : RelayError) → Ok n ≡ Err e → P
ok_is_no_error P n e is = cc

-- no read was left if that is the error
pub send_turns : {T : Type 0} (r : Result T RelayError) (e : RelayError) (passed rest : List ℕ) (left' : ℕ) → r ≡ Err e → FailsToSend e passed rest left' → r ≡ Err Turns → left' ≡ 0
send_turns r e passed rest left' is f turns = let it : e ≡ Turns = cc in (subst (λ x. FailsToSend x passed rest left') it f).1

pub receive_turns : {T : Type 0} (r : Result T RelayError) (e : RelayError) (due rest : List ℕ) (has : Option (List ℕ)) (left' : ℕ) → r ≡ Err e → FailsToReceive e due rest has left' → r ≡ Err Turns → left' ≡ 0
receive_turns r e due rest has left' is f turns = let it : e ≡ Turns = cc in (subst (λ x. FailsToReceive x due rest has left') it f).2

-- nothing was read or written
pub stops_at_once : (has held has' held' : Option (List ℕ)) → Stopped has has held held has' has' held' held' Memory
stops_at_once has held has' held' = record {
  input = [];
  sent = [];
  unsent = [];
  lines = record { consumed = Consumes-nil has; appended = Appends-nil held };
  sent_front = refl;
  heard = [];
  written = [];
  unwritten = [];
  replies = record { consumed = Consumes-nil has'; appended = Appends-nil held' };
  written_front = refl;
  due = [];
  writable_front = refl;
  stopped = (refl, refl);
}
