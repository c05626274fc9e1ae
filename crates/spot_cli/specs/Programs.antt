-- What the program says of a run.
use Rattle.spot_claims.specs.Answers.{AreaTooWideExactly, BadWordsExactly, EgoTooFastExactly, IsKnown, LaneTooWideExactly, LateProblemExactly, NoProblemExactly, NotJsonExactly, NotTreeExactly, ReadFaultOnly, RefusedExactly, TooLongExactly, TooManyBoxesExactly, TooManyCellsExactly, TooManyLanePolygonsExactly, WriteFaultOnly}
use Rattle.spot_claims.specs.Headline.{Headline}
use Rattle.spot_claims.specs.Outcomes.{Completes, ReadsSource, WritesOutput}
use Rattle.spot_claims.specs.Runs.{Run}

-- all that is said of a run
pub record IsSound (run : Run) : Type 0 where
  pub headline : Headline run
  pub output : WritesOutput run
  pub source_read : ReadsSource run
  pub known : IsKnown run
  pub bad_words : BadWordsExactly run
  pub read_fault : ReadFaultOnly run
  pub too_long : TooLongExactly run
  pub not_json : NotJsonExactly run
  pub not_tree : NotTreeExactly run
  pub refused : RefusedExactly run
  pub no_problem : NoProblemExactly run
  pub late_problem : LateProblemExactly run
  pub ego_too_fast : EgoTooFastExactly run
  pub too_many_cells : TooManyCellsExactly run
  pub lane_too_wide : LaneTooWideExactly run
  pub too_many_lane_polygons : TooManyLanePolygonsExactly run
  pub area_too_wide : AreaTooWideExactly run
  pub too_many_boxes : TooManyBoxesExactly run
  pub write_fault : WriteFaultOnly run
  pub complete : Completes run
