use Rattle.std.proofs.Common.{◌≡◌, Err, refl, inr, ap, ◌∙◌}
use Rattle.planar_run.specs.declared.status.Status.{Status}
use Rattle.planar_run.specs.declared.status.Status.TheVariants.{Done, Usage, ReadFault, WriteFault, NoMemory, TooLong}
use Rattle.planar_run.proofs.Asked.{made_so, no_script, not_made, part_so}
use Rattle.planar_run.proofs.Ended.{caused, ended, made_of, no_calls, only_memory, refused_of, refused_only, sink_stays, source_stays}
use Rattle.planar_run.proofs.Loop.{completes, nothing_used, within_limit}
use Rattle.planar_run.proofs.run.planar.Goals as goal

-- ---- the script of the source
pub returns-in-None : goal.returns-in-None
returns-in-None g c =
    let so = ended _ c.run.result _ _ _ _ c.run.ensures.ends in
    let from = caused c.run.result _ _ _ _ c.run.ensures.causes in record {
      read_to_end = λ asked is. (so Done is).0;
      answered = λ asked is. (c.in-Ok.options, c.in-Ok.ensures.given, (so Done is).2);
      answered_to_read_fault = λ is. (c.in-Ok.options, c.in-Ok.ensures.given, (so ReadFault is).1);
      answered_to_limit = λ is. (c.in-Ok.options, c.in-Ok.ensures.given, (so TooLong is).1);
      answered_to_write_fault = λ asked is. (c.in-Ok.options, c.in-Ok.ensures.given, (so WriteFault is).1);
      made = λ segments seed asked. absurd (not_made _ c.in-Ok.options c.in-Ok.ensures.alone c.in-None.is segments seed asked);
      made_to_write_fault = λ segments seed asked. absurd (not_made _ c.in-Ok.options c.in-Ok.ensures.alone c.in-None.is segments seed asked);
      made_without_source = λ segments seed asked. absurd (not_made _ c.in-Ok.options c.in-Ok.ensures.alone c.in-None.is segments seed asked);
      known = λ is. (c.in-Ok.options, c.in-Ok.ensures.given);
      usage = λ is. absurd (so Usage is);
      usage_broken = λ outside. absurd (outside c.in-Ok.options c.in-Ok.ensures.given);
      other_words = λ outside. absurd (outside c.in-Ok.options c.in-Ok.ensures.given);
      nothing_read = λ outside. absurd (outside c.in-Ok.options c.in-Ok.ensures.given);
      no_memory = λ is. so NoMemory is;
      too_long = λ is. (so TooLong is).0;
      not_too_long = within_limit _ c.run.result _ _ _ _ c.run.ensures.ends;
      read_fault = λ is. (from ReadFault is).0;
      write_fault = λ is. (from WriteFault is).1;
      no_read_fault = source_stays c.run.result _ _ _ _ c.run.ensures.causes;
      no_write_fault = sink_stays c.run.result _ _ _ _ c.run.ensures.causes;
      complete = λ asked f h s. completes _ c.run.result _ _ _ _ _ _ _ _ c.run.ensures.ends c.run.ensures.causes f h s;
      reads = c.run.ensures.reads;
      limit = refl;
      line_limit = refl;
      full = (refl, refl, refl);
    }

-- ---- a made script
pub returns-in-Ok : goal.returns-in-Ok
returns-in-Ok g c =
    let of = λ (s : Status) (is : c.run_made.result ≡ s). made_of c.run_made.result s c.run_made.ensures.only is in record {
      read_to_end = λ asked. absurd (no_script _ c.in-Ok.options c.in-Ok.ensures.alone c.in-Some.segments c.in-Some.is asked);
      answered = λ asked. absurd (no_script _ c.in-Ok.options c.in-Ok.ensures.alone c.in-Some.segments c.in-Some.is asked);
      answered_to_read_fault = λ is. absurd (of ReadFault is);
      answered_to_limit = λ is. absurd (of TooLong is);
      answered_to_write_fault = λ asked. absurd (no_script _ c.in-Ok.options c.in-Ok.ensures.alone c.in-Some.segments c.in-Some.is asked);
      made = λ segments seed asked is. (c.in-Ok.options, c.in-Ok.ensures.given, made_so _ c.in-Ok.options c.in-Ok.ensures.alone c.in-Some.segments c.in-Some.is segments seed asked _ _ _ (c.run_made.ensures.made is));
      made_to_write_fault = λ segments seed asked is. (c.in-Ok.options, c.in-Ok.ensures.given, part_so _ c.in-Ok.options c.in-Ok.ensures.alone c.in-Some.segments c.in-Some.is segments seed asked _ _ _ (c.run_made.ensures.broken is));
      made_without_source = λ segments seed asked. (refl, c.run_made.ensures.only);
      known = λ is. (c.in-Ok.options, c.in-Ok.ensures.given);
      usage = λ is. absurd (of Usage is);
      usage_broken = λ outside. absurd (outside c.in-Ok.options c.in-Ok.ensures.given);
      other_words = λ outside. absurd (outside c.in-Ok.options c.in-Ok.ensures.given);
      nothing_read = λ outside. refl;
      no_memory = λ is. (refl, c.run_made.ensures.no_memory is);
      too_long = λ is. absurd (of TooLong is);
      not_too_long = λ n. nothing_used _;
      read_fault = λ is. absurd (of ReadFault is);
      write_fault = λ is. (caused c.run_made.result _ _ _ _ c.run_made.ensures.causes WriteFault is).1;
      no_read_fault = λ n. refl;
      no_write_fault = sink_stays c.run_made.result _ _ _ _ c.run_made.ensures.causes;
      complete = λ asked. absurd (no_script _ c.in-Ok.options c.in-Ok.ensures.alone c.in-Some.segments c.in-Some.is asked);
      reads = no_calls _ _;
      limit = refl;
      line_limit = refl;
      full = (refl, refl, refl);
    }

-- ---- words outside the grammar
pub returns-in-Err-Usage : goal.returns-in-Err-Usage
returns-in-Err-Usage g c =
    let outside = c.read_words.ensures.usage (c.in-Err-Usage.is ∙ ap Err c.in-Err-Usage.field-0-is) in
    let of = λ (s : Status) (is : c.refuse_words.result ≡ s). refused_of c.refuse_words.result s c.refuse_words.ensures.only is in record {
      read_to_end = λ asked. absurd (outside asked.0 asked.1);
      answered = λ asked. absurd (outside asked.0 asked.1);
      answered_to_read_fault = λ is. absurd (of ReadFault is);
      answered_to_limit = λ is. absurd (of TooLong is);
      answered_to_write_fault = λ asked. absurd (outside asked.0 asked.1);
      made = λ segments seed asked. absurd (outside asked.0 asked.1);
      made_to_write_fault = λ segments seed asked. absurd (outside asked.0 asked.1);
      made_without_source = λ segments seed asked. absurd (outside asked.0 asked.1);
      known = λ is. absurd (of Done is);
      usage = λ is. (outside, c.refuse_words.ensures.usage is);
      usage_broken = λ other is. c.refuse_words.ensures.broken is;
      other_words = λ other. refused_only c.refuse_words.result c.refuse_words.ensures.only;
      nothing_read = λ other. refl;
      no_memory = λ is. absurd (of NoMemory is);
      too_long = λ is. absurd (of TooLong is);
      not_too_long = λ n. nothing_used _;
      read_fault = λ is. absurd (of ReadFault is);
      write_fault = λ is. (caused c.refuse_words.result _ _ _ _ c.refuse_words.ensures.causes WriteFault is).1;
      no_read_fault = λ n. refl;
      no_write_fault = sink_stays c.refuse_words.result _ _ _ _ c.refuse_words.ensures.causes;
      complete = λ asked. absurd (outside asked.0 asked.1);
      reads = no_calls _ _;
      limit = refl;
      line_limit = refl;
      full = (refl, refl, refl);
    }

-- ---- no memory to read the words
pub returns : goal.returns
returns g c = record {
  read_to_end = λ asked is. absurd (only_memory Done is);
  answered = λ asked is. absurd (only_memory Done is);
  answered_to_read_fault = λ is. absurd (only_memory ReadFault is);
  answered_to_limit = λ is. absurd (only_memory TooLong is);
  answered_to_write_fault = λ asked is. absurd (only_memory WriteFault is);
  made = λ segments seed asked is. absurd (only_memory Done is);
  made_to_write_fault = λ segments seed asked is. absurd (only_memory WriteFault is);
  made_without_source = λ segments seed asked. (refl, inr (inr refl));
  known = λ is. absurd (only_memory Done is);
  usage = λ is. absurd (only_memory Usage is);
  usage_broken = λ outside is. absurd (only_memory WriteFault is);
  other_words = λ outside. inr (inr refl);
  nothing_read = λ outside. refl;
  no_memory = λ is. (refl, refl);
  too_long = λ is. absurd (only_memory TooLong is);
  not_too_long = λ n. nothing_used _;
  read_fault = λ is. absurd (only_memory ReadFault is);
  write_fault = λ is. absurd (only_memory WriteFault is);
  no_read_fault = λ n. refl;
  no_write_fault = λ n. refl;
  complete = λ asked f h s. inr refl;
  reads = no_calls _ _;
  limit = refl;
  line_limit = refl;
  full = (refl, refl, refl);
}
