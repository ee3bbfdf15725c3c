pub mod RecordingLaws
