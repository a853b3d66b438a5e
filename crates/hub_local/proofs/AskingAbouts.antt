-- The request for what a fifodir is, and how much is there.
use Rattle.std.proofs.Common.{◌≡◌, ℕ, Bool, false, List, Option, Some, sym, ap, ◌∙◌}
use Rattle.std.specs.Map.{lookup}
use Rattle.std.specs.Str.{bytes_eq}
use Rattle.hub_record.specs.Kept.{Represents}
use Rattle.hub_record.specs.World.{World}
use Rattle.hub_local.specs.DeskAnswers.{about_answer, about_in, in_world}
use Rattle.hub_local.specs.Desks.{reports_of}
use Rattle.hub_local.specs.Representing.{Local, AsksWith}
use Rattle.hub_local.specs.declared.local_desk.LocalFifodir.{LocalFifodir}
use Rattle.hub_requests.specs.declared.about.About as abouts
use Rattle.hub_requests.specs.declared.request.Request.TheVariants.{About as Describe}
use Rattle.hub_requests.specs.declared.reply.Reply.TheVariants.{About, No}
use Rattle.hub_requests.specs.declared.reply.Refusal.TheVariants as no
use Rattle.hub_local.proofs.Asking.{by_carrying, named}
use Rattle.hub_local.proofs.KeptFifodirs.{some_kept}
use Rattle.hub_local.proofs.Posts.{some_reports}

pub about_shown : (local : Local) (name : List ℕ) (r : LocalFifodir) (shows : abouts.About) → Some r ≡ lookup (bytes_eq name) local.fifodirs
    → ((w : World) → Represents r.kept w → shows ≡ about_in r.reports w) → AsksWith false local (Describe name) (About shows) local
about_shown local name r shows was is = by_carrying local local false _ _ _ (About shows) (λ (e : About shows ≡ No no.Memory). cc) (λ d st.
    let t = some_kept name local.fifodirs d.fifodirs r st.fifodirs (sym was) in
    let reports = some_reports local.fifodirs d.fifodirs name r st.fifodirs (sym was) in
    let w = t.0 in record {
      answer = about_answer d (reports_of d.fifodirs name) w;
      unrefused = named d name w t.1;
      done_is = ap (in_world d (about_answer d (reports_of d.fifodirs name))) t.1;
      said = ap About (is w t.2 ∙ ap (λ (o : Option Bool). about_in o w) (sym reports));
      represents = st;
    })
