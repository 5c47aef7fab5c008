pub mod PidLayers
