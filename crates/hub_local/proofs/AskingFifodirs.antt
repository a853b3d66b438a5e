-- The requests about a fifodir, and the one for the names of all.
use Rattle.std.proofs.Common.{◌≡◌, ℕ, ◌<◌, ◌≤◌, Bool, true, false, List, [], ◌∷◌, ◌++◌, length, Option, Some, None, is_some, Result, Ok, Err, refl, sym, ap, subst, ◌∙◌, arith, ◌≢◌}
use Rattle.std.specs.Map.{lookup, keys_of}
use Rattle.std.specs.Str.{bytes_eq}
use Rattle.hub_record.specs.declared.Closed.{Closed}
use Rattle.hub_record.specs.declared.PubError.{PubError}
use Rattle.hub_record.specs.declared.PubError.TheVariants as post
use Rattle.hub_record.specs.declared.Status.{Status}
use Rattle.hub_record.specs.Kept.{Kept, Represents}
use Rattle.hub_record.specs.declared.Kind.{Kind}
use Rattle.hub_record.specs.declared.Kind.TheVariants.{Plain, Service}
use Rattle.hub_record.specs.declared.limits.Limits.{Limits}
use Rattle.hub_record.specs.World.{World, empty_world, after_publish, close_reply, after_close}
use Rattle.hub_local.specs.DeskAnswers.{answered_with, in_world, make_answer, publish_answer, close_answer, status_answer, refusal_to_make, refusal_to_tell, refusal_by_kind, names_answer}
use Rattle.hub_local.specs.Desks.{Desk, Answer, Fifodir, refusal_answer, world_of, names_in}
use Rattle.hub_local.specs.Replies.{publish_reply}
use Rattle.hub_requests.specs.Refusals.{refusal_of_pub, reply_to_publish}
use Rattle.hub_local.specs.Representing.{Local, AreKept, RepresentsDesk, CarriesOut, AsksWith, Unchanged}
use Rattle.hub_local.specs.declared.local_desk.LocalFifodir.{LocalFifodir}
use Rattle.hub_requests.specs.declared.request.Request.TheVariants.{Close, Status as Show, Names}
use Rattle.hub_requests.specs.declared.reply.Reply.{Reply}
use Rattle.hub_requests.specs.declared.reply.Reply.TheVariants.{Done, State, No}
use Rattle.hub_requests.specs.declared.reply.Refusal.{Refusal}
use Rattle.hub_requests.specs.declared.reply.Refusal.TheVariants as no
use Rattle.std.proofs.lemmas.Bool.{le-leb, lt-leb}
use Rattle.hub_requests.specs.declared.bounds.TheConstants.{MOST_NAMES}
use Rattle.hub_local.proofs.Holdings.{held_still, held_with_more}
use Rattle.hub_local.proofs.Asking.{by_carrying, by_refusing, by_lacking, still_lacking, represents_same, Replaces, world_there, represents_replaced, represents_still, named}
use Rattle.hub_local.proofs.KeptFifodirs.{some_kept, none_kept, is_some-world_of, length-kept, kept_push}
use Rattle.hub_requests.specs.declared.reply.Refusal.TheVariants.{Memory}
use Rattle.hub_requests.specs.Listings.{fitting, names_shown, names_reply}
use Rattle.std.specs.Prelude.{drop}

-- ---- dir and svc

no_world : (local : Local) (d : Desk) (name : List ℕ) → RepresentsDesk local d → is_some (lookup (bytes_eq name) local.fifodirs) ≡ false → is_some (world_of d.fifodirs name) ≡ false
no_world local d name st absent = sym (is_some-world_of name local.fifodirs d.fifodirs st.fifodirs) ∙ absent

module _ (old : Local) (name : List ℕ) (kind : Kind) (reports : Option Bool) (limits : Limits) where
  abbrev Makes : Reply → Local → Type 0
  Makes reply new = CarriesOut old true (λ d. refusal_to_make d name) (λ d. make_answer d name kind reports (Some limits)) Unchanged reply new

  pub make_exists : is_some (lookup (bytes_eq name) old.fifodirs) ≡ true → Makes (No no.Exists) old
  make_exists there = by_refusing old old true _ _ _ _ no.Exists refl (λ e. cc)
      (λ d st. (let e = sym (is_some-world_of name old.fifodirs d.fifodirs st.fifodirs) ∙ there in simp e)) (λ d st. st)

  pub make_many : is_some (lookup (bytes_eq name) old.fifodirs) ≡ false → MOST_NAMES ≤ length old.fifodirs → Makes (No no.Many) old
  make_many absent many = by_refusing old old true _ _ _ _ no.Many refl (λ e. cc)
      (λ d st. (let same = length-kept old.fifodirs d.fifodirs st.fifodirs in
      simp (no_world old d name st absent, le-leb MOST_NAMES (length d.fifodirs) (omega arith)))) (λ d st. st)

  -- no fifodir has the name, and there is room for one more
  module _ (absent : is_some (lookup (bytes_eq name) old.fifodirs) ≡ false) (few : length old.fifodirs < MOST_NAMES) where
    may_make : (d : Desk) → RepresentsDesk old d → refusal_to_make d name ≡ None
    may_make d st = let same = length-kept old.fifodirs d.fifodirs st.fifodirs in
        simp (no_world old d name st absent, lt-leb MOST_NAMES (length d.fifodirs) (omega arith))

    pub make_lacks : (new : Local) → new ≡ old → Makes (No no.Memory) new
    make_lacks new same = by_lacking old new true _ _ _ _ refl refl (λ d st. still_lacking new d (refusal_to_make d name) (may_make d st) (represents_same old new d same st))

    pub make_done : (new : Local) (kept : Kept) → Represents kept (empty_world kind limits)
        → new.fifodirs ≡ old.fifodirs ++ (name, record { kept = kept; reports = reports }) ∷ [] → new.holdings ≡ old.holdings → new.given ≡ old.given → new.wills ≡ old.wills → Makes Done new
    make_done new kept represents fifodirs holdings given wills = by_carrying old new true _ _ _ Done (λ (e : Done ≡ No no.Memory). cc) (λ d st.
        let f : Fifodir = record { name = name; reports = reports; world = empty_world kind limits } in
        let more = d.fifodirs ++ f ∷ [] in record {
          answer = make_answer d name kind reports (Some limits);
          unrefused = may_make d st;
          done_is = refl;
          said = refl;
          represents = record {
            fifodirs = subst (λ (es : List (List ℕ × LocalFifodir)). AreKept es (d.fifodirs ++ f ∷ [])) (sym fifodirs)
                (kept_push old.fifodirs d.fifodirs _ f st.fifodirs (record { name = refl; reports = refl; world = represents }));
            holdings = holdings ∙ st.holdings;
            given = given ∙ st.given;
            wills = wills ∙ st.wills;
            is_desk = record { held = held_still d.fifodirs more (held_with_more d.fifodirs f) _ st.is_desk.held; apart = st.is_desk.apart; go_on = st.is_desk.go_on };
          };
        })

-- ---- close

module _ (old new : Local) (name : List ℕ) (r : LocalFifodir) (kept : Kept) (put : Replaces old new name r kept) (reply : Reply) where
  pub close_done : ((w : World) → Represents r.kept w → Ok tt ≡ close_reply w) → ((w : World) → Represents r.kept w → Represents kept (after_close w)) → reply ≡ Done → AsksWith false old (Close name) reply new
  close_done replies after is = by_carrying old new false _ _ _ reply (λ e. cc) (λ d st.
      let t = world_there old new name r kept put d st in
      let w = t.0 in record {
        answer = answered_with Done d name (after_close w);
        unrefused = named d name w t.1;
        done_is = ap (in_world d (λ v. close_answer d name v (close_reply v))) t.1 ∙ ap (close_answer d name w) (sym (replies w t.2));
        said = is;
        represents = represents_replaced old new name r kept put d st w (after_close w) t.1 (after w t.2) (λ id k. k);
      })

  pub close_refused : (error : Closed) → ((w : World) → Represents r.kept w → Err error ≡ close_reply w) → kept ≡ r.kept → reply ≡ No no.Closed → AsksWith false old (Close name) reply new
  close_refused error replies still is = by_carrying old new false _ _ _ reply (λ e. cc) (λ d st.
      let t = world_there old new name r kept put d st in
      let w = t.0 in record {
        answer = refusal_answer d no.Closed;
        unrefused = named d name w t.1;
        done_is = ap (in_world d (λ v. close_answer d name v (close_reply v))) t.1 ∙ ap (close_answer d name w) (sym (replies w t.2));
        said = is;
        represents = represents_still old new name r kept put d st w t.1 (subst (λ (k : Kept). Represents k w) (sym still) t.2);
      })

-- ---- pub and tell

pub real_refusal : (error : PubError) → refusal_of_pub error ≢ no.Memory
real_refusal post.Closed e = cc
real_refusal (post.Unlawful i) e = cc
real_refusal post.Spent e = cc
real_refusal post.Full e = cc

said_so : (d : Desk) (name message : List ℕ) (w : World) (r : Result ℕ PubError) → reply_to_publish r ≡ (publish_answer d name message w r).reply
said_so d name message w (Ok first) = refl
said_so d name message w (Err error) = refl

module _ (old new : Local) (name : List ℕ) (r : LocalFifodir) (kept : Kept) (put : Replaces old new name r kept) (word : World → List ℕ) where
  abbrev Publishes : Desk → Answer
  Publishes d = in_world d (λ w. publish_answer d name (word w) w (publish_reply w (word w))) (world_of d.fifodirs name)

  goes_on : (d : Desk) → RepresentsDesk old d → (w : World) → world_of d.fifodirs name ≡ Some w → (reply : Result ℕ PubError) → Represents kept (after_publish w 1 (word w) reply)
      → RepresentsDesk new (publish_answer d name (word w) w reply).desk
  goes_on d st w is (Ok first) h = represents_replaced old new name r kept put d st w (after_publish w 1 (word w) (Ok first)) is h (λ id k. k)
  goes_on d st w is (Err error) h = represents_still old new name r kept put d st w is h

  -- what the fifodir under the name was asked to publish is the word of its world
  pub published : (own : Desk → Option Refusal) (reply : Reply) → ((d : Desk) (w : World) → world_of d.fifodirs name ≡ Some w → Represents r.kept w → own d ≡ None)
      → ((w : World) → Represents r.kept w → reply ≡ reply_to_publish (publish_reply w (word w)))
      → ((w : World) → Represents r.kept w → Represents kept (after_publish w 1 (word w) (publish_reply w (word w)))) → reply ≢ No no.Memory
      → CarriesOut old false own Publishes Unchanged reply new
  published own reply unrefused said after real = by_carrying old new false _ _ _ reply real (λ d st.
      let t = world_there old new name r kept put d st in
      let w = t.0 in record {
        answer = publish_answer d name (word w) w (publish_reply w (word w));
        unrefused = unrefused d w t.1 t.2;
        done_is = ap (in_world d (λ v. publish_answer d name (word v) v (publish_reply v (word v)))) t.1;
        said = said w t.2 ∙ said_so d name (word w) w (publish_reply w (word w));
        represents = goes_on d st w t.1 (publish_reply w (word w)) (after w t.2);
      })

  -- a plain one isn't told anything
  pub untold : (reply : Reply) (done : Desk → Answer) (left : Desk → Desk → Type 0) → r.kept.kind ≡ Plain → kept ≡ r.kept → reply ≡ No no.Kind
      → CarriesOut old false (λ d. refusal_to_tell (world_of d.fifodirs name)) done left reply new
  untold reply done left plain still is = by_refusing old new false (λ d. refusal_to_tell (world_of d.fifodirs name)) done left reply no.Kind is (λ (e : no.Kind ≡ no.Memory). cc)
      (λ d st. (let t = world_there old new name r kept put d st in ap refusal_to_tell t.1 ∙ ap refusal_by_kind (sym t.2.kind ∙ plain)))
      (λ d st. (let t = world_there old new name r kept put d st in represents_still old new name r kept put d st t.0 t.1 (subst (λ (k : Kept). Represents k t.0) (sym still) t.2)))

-- a service may be told
pub may_tell : (d : Desk) (name : List ℕ) (w : World) (kept : Kept) → world_of d.fifodirs name ≡ Some w → Represents kept w → kept.kind ≡ Service → refusal_to_tell (world_of d.fifodirs name) ≡ None
may_tell d name w kept at h service = ap refusal_to_tell at ∙ ap refusal_by_kind (sym h.kind ∙ service)

pub tell_no_name : (before old new : Local) (name : List ℕ) (done : Desk → Answer) (left : Desk → Desk → Type 0) → before ≡ old → new ≡ before
    → None ≡ lookup (bytes_eq name) before.fifodirs → CarriesOut old false (λ d. refusal_to_tell (world_of d.fifodirs name)) done left (No no.Name) new
tell_no_name before old new name done left same still none =
    by_refusing old new false (λ d. refusal_to_tell (world_of d.fifodirs name)) done left (No no.Name) no.Name refl (λ (e : no.Name ≡ no.Memory). cc)
    (λ d st. ap refusal_to_tell (none_kept name old.fifodirs d.fifodirs st.fifodirs (sym (none ∙ ap (λ (z : Local). lookup (bytes_eq name) z.fifodirs) same))))
    (λ d st. represents_same old new d (still ∙ same) st)

-- ---- status

pub status_shown : (local : Local) (name : List ℕ) (r : LocalFifodir) (shows : Status) → Some r ≡ lookup (bytes_eq name) local.fifodirs
    → shows.number ≡ r.kept.end → shows.flags ≡ r.kept.flags → shows.closed ≡ r.kept.closed → AsksWith false local (Show name) (State shows) local
status_shown local name r shows was number flags is_closed = by_carrying local local false _ _ _ (State shows) (λ (e : State shows ≡ No no.Memory). cc) (λ d st.
    let t = some_kept name local.fifodirs d.fifodirs r st.fifodirs (sym was) in
    let w = t.0 in
    let s = t.2 in
    let ends = number ∙ s.end in let flies = flags ∙ s.flags in let closes = is_closed ∙ s.closed in record {
      answer = status_answer d w;
      unrefused = named d name w t.1;
      done_is = ap (in_world d (status_answer d)) t.1;
      said = λ i. State (record { number = ends i; flags = flies i; closed = closes i });
      represents = st;
    })

-- ---- the request for the names of fifodirs

-- the names that are kept are the model's, in the same order
pub kept_names : (es : List (List ℕ × LocalFifodir)) (fs : List Fifodir) → AreKept es fs → keys_of es ≡ names_in fs
kept_names [] [] h = refl
kept_names [] (f ∷ fs) h = absurd h
kept_names (e ∷ es) [] h = absurd h
kept_names (e ∷ es) (f ∷ fs) h = let name = h.0.name in let rest = kept_names es fs h.1 in cc

shown_real : (names : List (List ℕ)) → names_shown names ≢ No Memory
shown_real [] e = cc
shown_real (name ∷ rest) e = cc

real : (names : List (List ℕ)) (from : ℕ) (reply : Reply) → reply ≡ names_reply names from → reply ≢ No Memory
real names from reply is e = shown_real (fitting (drop from names)) (sym is ∙ e)

pub names_listed : (local : Local) (from : ℕ) (reply : Reply) → reply ≡ names_reply (keys_of local.fifodirs) from → AsksWith false local (Names from) reply local
names_listed local from reply is = by_carrying local local true _ _ _ reply (real (keys_of local.fifodirs) from reply is) (λ d st. record {
  answer = names_answer d from;
  unrefused = refl;
  done_is = refl;
  said = is ∙ ap (λ (names : List (List ℕ)). names_reply names from) (kept_names local.fifodirs d.fifodirs st.fifodirs);
  represents = st;
})
