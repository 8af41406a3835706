pub mod RunSealing
