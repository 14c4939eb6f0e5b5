use Rattle.std.proofs.Common.{Ok, Err, inl, map, refl, string_bytes}
use Rattle.td_meeting.specs.declared.error.MeetingError.TheVariants as meeting_error
use Rattle.td_answers.proofs.Drawing.{judged_not, meets_none, tells_meeting, unmet}
use Rattle.td_answers.proofs.Placing.{seen_there}
use Rattle.td_answers.proofs.Saying.{says_more}
use Rattle.td_answers.proofs.Staying.{all_stay}
use Rattle.td_answers.proofs.meeting.meet_at.Goals as goal

pub unmet_fault-requires : goal.unmet_fault-requires
unmet_fault-requires g c = unmet (g.R.Replica.seen c.index-sites-first.result) (g.R.Replica.seen c.index-sites-second.result) c.in-Err.error c.in-Err.ensures

pub returns-in-Err-clause-answered : goal.returns-in-Err-clause-answered
returns-in-Err-clause-answered g c =
    let seen = g.R.Replica.seen in
    tells_meeting c.args.numbers (map seen c.args.sites.now) c.args.first c.args.second (Err (record { error = c.in-Err.error; first_took = 0 })) _ (map seen c.args.sites.now)
    (meets_none (map seen c.args.sites.now) c.args.first c.args.second (seen c.index-sites-first.result) (seen c.index-sites-second.result) c.in-Err.error
    (seen_there seen c.args.sites.now c.args.first c.index-sites-first.result c.requires.first c.index-sites-first.is)
    (seen_there seen c.args.sites.now c.args.second c.index-sites-second.result c.requires.second c.index-sites-second.is)
    (judged_not (seen c.index-sites-first.result) (seen c.index-sites-second.result) c.in-Err.error c.in-Err.ensures))
    c.unmet_fault.ensures

pub returns-in_default-clause-answered : goal.returns-in_default-clause-answered
returns-in_default-clause-answered g c =
    let seen = g.R.Replica.seen in
    tells_meeting c.args.numbers (map seen c.args.sites.now) c.args.first c.args.second (Err (record { error = meeting_error.OutOfMemory; first_took = 0 })) _ (map seen c.args.sites.now)
    (meets_none (map seen c.args.sites.now) c.args.first c.args.second (seen c.index-sites-first.result) (seen c.index-sites-second.result) meeting_error.OutOfMemory
    (seen_there seen c.args.sites.now c.args.first c.index-sites-first.result c.requires.first c.index-sites-first.is)
    (seen_there seen c.args.sites.now c.args.second c.index-sites-second.result c.requires.second c.index-sites-second.is)
    (c.in-Ok.ensures.0, c.in-Ok.ensures.1, inl (refl, refl, refl)))
    refl

pub returns-in-Ok-meeting-clause-answered : goal.returns-in-Ok-meeting-clause-answered
returns-in-Ok-meeting-clause-answered g c =
    let seen = g.R.Replica.seen in
    tells_meeting c.args.numbers (map seen c.args.sites.now) c.args.first c.args.second (Ok c.in-Ok-meeting.met) (string_bytes c.met_line.result) (map seen c.meeting.new.sites) c.in-Ok-meeting.ensures.meets c.met_line.ensures

pub returns-in-Err-meeting-clause-answered : goal.returns-in-Err-meeting-clause-answered
returns-in-Err-meeting-clause-answered g c =
    let seen = g.R.Replica.seen in
    says_more _ _ c.meeting_fault.result
    (λ text line. tells_meeting c.args.numbers (map seen c.args.sites.now) c.args.first c.args.second (Err c.in-Err-meeting.refusal) text (map seen c.meeting.new.sites) c.in-Err-meeting.ensures.meets line)
    c.meeting_fault.ensures

pub returns-in-Err-clause-journaled : goal.returns-in-Err-clause-journaled
returns-in-Err-clause-journaled g c = all_stay g.R.Replica.journaled c.args.sites.now

pub returns-in_default-clause-journaled : goal.returns-in_default-clause-journaled
returns-in_default-clause-journaled g c = all_stay g.R.Replica.journaled c.args.sites.now
